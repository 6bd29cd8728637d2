use Rattle.std.proofs.Common.{◌≤◌, arith}
use Rattle.fate_eval.proofs.Sources.{all_more, all_taken}
use Rattle.fate_eval.proofs.scopes.complete_after.Goals as goal

pub loop-after-preserved : goal.loop-after-preserved
loop-after-preserved c = record {
  later = omega (arith, c.loop-after.invariant.later, c.max-known.ensures);
  all = all_more (λ a. a ≤ c.loop-after.known) (λ a. a ≤ c.max-known.result) c.args.afters.now c.loop-after.after-index 0 c.loop-after-test.true (λ y h. omega (arith, h, c.max-known.ensures)) c.loop-after.invariant.all (omega (arith, c.max-known.ensures));
  least = λ n low each.
      let before = c.loop-after.invariant.least n low each in
      let here = each c.loop-after.after-index 0 c.loop-after-test.true in
      omega (arith, before, here, c.max-known.ensures);
}

pub returns-clause-all : goal.returns-clause-all
returns-clause-all c = all_taken (λ a. a ≤ c.loop-after.known) c.args.afters.now c.loop-after.after-index (omega arith) c.loop-after.invariant.all
