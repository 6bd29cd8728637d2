use Rattle.std.proofs.Common.{refl}
use Rattle.fate_eval.proofs.Behind.{fact_more}
use Rattle.fate_eval.proofs.accepted.entries_of.Goals as goal

pub loop-i-preserved : goal.loop-i-preserved
loop-i-preserved c = λ p.
    rw c.in_ok-push.ensures.items
    (fact_more c.loop-i.entries.items c.args.facts.now c.loop-i.i _ c.index-facts-i.result p c.loop-i-test.true c.index-facts-i.is c.as_slice.ensures refl refl (c.loop-i.invariant p))
