use Rattle.leaf_rules.proofs.uses.exit_fault.Goals as goal

pub returns : goal.returns
returns c = rw (c.coded.ensures.leaves, c.exit_condition.ensures) at c.found_in_cond.ensures
