use Rattle.containers.proofs.Steps.{place_found, place_passed}
use Rattle.containers.proofs.find.leaf_index.Goals as goal

pub returns-then-are_steps-clause-place : goal.returns-then-are_steps-clause-place
returns-then-are_steps-clause-place c =
    place_found c.args.steps.now c.args.leaves.now.leaves c.loop-i.i (rw c.len-i-end.ensures.len at c.loop-i-test.true) (rw c.steps.ensures at c.if-are_steps.ensures) c.loop-i.invariant

pub loop-i-preserved : goal.loop-i-preserved
loop-i-preserved c =
    place_passed c.args.steps.now c.args.leaves.now.leaves c.loop-i.i (rw c.len-i-end.ensures.len at c.loop-i-test.true) (rw c.steps.ensures at c.if-are_steps.ensures) c.loop-i.invariant
