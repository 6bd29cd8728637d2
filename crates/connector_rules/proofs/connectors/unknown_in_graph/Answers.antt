use Rattle.text_graphs.proofs.Finding.{least_either}
use Rattle.connector_rules.proofs.connectors.unknown_in_graph.Goals as goal

pub returns : goal.returns
returns c = rw c.lesser.ensures.least (least_either _ _ c.unknown_in_controls.result c.unknown_in_lines.result c.unknown_in_controls.ensures c.unknown_in_lines.ensures)
