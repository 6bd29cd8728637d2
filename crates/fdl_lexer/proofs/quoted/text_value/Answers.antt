use Rattle.std.proofs.Common.{arith}
use Rattle.std.proofs.lemmas.Bool.Decides.{nat_tests}
use Rattle.fdl_lexer.proofs.Doubled.{unread_more, all_read}
use Rattle.fdl_lexer.proofs.quoted.text_value.Goals as goal

pub loop-at-preserved : goal.loop-at-preserved
loop-at-preserved c = record {
  within = grind (arith, nat_tests);
  unread = λ value e.
      let u = c.loop-at.invariant.unread value e in
      let more = unread_more c.args.bytes.now c.loop-at.at c.loop-at.value.items value u.0 c.loop-at-test.true u.1 in
      (more.0, rw (c.in_ok-push.ensures.items, c.written_len-at.ensures) more.1);
}

pub returns : goal.returns
returns c = λ value e.
    let u = c.loop-at.invariant.unread value e in
    all_read c.args.bytes.now c.loop-at.at c.loop-at.value.items value u.0 c.loop-at-test.false u.1
