use Rattle.text_graphs.proofs.Finding.{least_either}
use Rattle.process_rules.specs.Said.{InExits, InConnectors}
use Rattle.process_rules.specs.Search.{looked_for}
use Rattle.text_graphs.specs.Graphs.{graph_at}
use Rattle.process_rules.proofs.said.in_conditions.Goals as goal

pub returns : goal.returns
returns c = rw c.lesser.ensures.least (least_either (InExits (looked_for c.args.looked) (graph_at c.args.scope.now)) (InConnectors (looked_for c.args.looked) (graph_at c.args.scope.now)) c.in_exits.result c.in_connectors.result c.in_exits.ensures c.in_connectors.ensures)
