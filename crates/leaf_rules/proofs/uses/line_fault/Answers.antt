use Rattle.leaf_rules.proofs.uses.line_fault.Goals as goal

pub returns : goal.returns
returns c = rw (c.line_source-from.ensures.leaves, c.line_target-to.ensures.leaves, c.as_slice.ensures) at c.found_in_maps.ensures
