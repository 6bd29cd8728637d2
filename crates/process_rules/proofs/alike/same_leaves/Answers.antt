use Rattle.process_rules.proofs.Same.{same_more}
use Rattle.process_rules.proofs.alike.same_leaves.Goals as goal

pub loop-place-preserved : goal.loop-place-preserved
loop-place-preserved c = same_more c.args.first.now.leaves c.args.second.now.leaves c.loop-place.place c.loop-place.invariant (c.same_leaf.ensures.0 c.if-not-same_leaf.false)
