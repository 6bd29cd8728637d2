use Rattle.text_graphs.proofs.Finding.{least_either}
use Rattle.connector_rules.proofs.otherwises.otherwise_in_graph.Goals as goal

pub returns : goal.returns
returns c = rw c.lesser.ensures.least (least_either _ _ c.in_ok-again.again c.in_ok-untested.untested c.in_ok-again.ensures c.in_ok-untested.ensures)
