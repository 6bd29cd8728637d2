use Rattle.text_graphs.proofs.Finding.{least_either}
use Rattle.leaf_rules.proofs.uses.graph_fault.Goals as goal

pub returns : goal.returns
returns c = rw c.lesser.ensures.least (least_either _ _ c.conditions_fault.result c.lines_fault.result c.conditions_fault.ensures c.lines_fault.ensures)
