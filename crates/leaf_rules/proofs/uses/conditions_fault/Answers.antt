use Rattle.text_graphs.proofs.Finding.{least_either}
use Rattle.leaf_rules.proofs.uses.conditions_fault.Goals as goal

pub returns : goal.returns
returns c = rw c.lesser.ensures.least (least_either _ _ c.exits_fault.result c.transitions_fault.result c.exits_fault.ensures c.transitions_fault.ensures)
