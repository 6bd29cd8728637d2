use Rattle.std.proofs.Common.{◌≡◌, ℕ, length, take, subst, arith}
use Rattle.std.specs.List.{All}
use Rattle.std.proofs.lemmas.List.Elements.{All-more}
use Rattle.fate_eval.specs.Grouped.{LeadsBelow}
use Rattle.fate_eval.proofs.accepted.run_len.Goals as goal

pub loop-i-preserved : goal.loop-i-preserved
loop-i-preserved c =
    All-more (LeadsBelow c.args.part.now) c.args.entries.now c.loop-i.i c.index-entries-i.result c.loop-i-test.true c.loop-i.invariant
    (subst (LeadsBelow c.args.part.now) c.index-entries-i.is (c.leads_to.ensures c.if-not-leads_to.false))

pub returns-clause-run : goal.returns-clause-run
returns-clause-run c =
    let end : c.loop-i.i ≡ length c.args.entries.now = omega arith in
    subst (λ (n : ℕ). All (LeadsBelow c.args.part.now) (take n c.args.entries.now)) end c.loop-i.invariant
