use Rattle.leaf_rules.proofs.uses.transition_fault.Goals as goal

pub returns : goal.returns
returns c = rw (c.connector_leaves-leaves.ensures.leaves, c.condition.ensures) at c.found_in_cond.ensures
