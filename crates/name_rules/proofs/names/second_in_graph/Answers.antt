use Rattle.text_graphs.proofs.Finding.{least_either}
use Rattle.name_rules.proofs.names.second_in_graph.Goals as goal

pub returns : goal.returns
returns c = rw c.lesser.ensures.least (least_either _ _ c.in_ok-activity.activity c.second_attributes.result c.in_ok-activity.ensures c.second_attributes.ensures)
