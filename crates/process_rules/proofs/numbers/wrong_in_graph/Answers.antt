use Rattle.process_rules.specs.Numbers.{AreSaidOutside, IsUnsized}
use Rattle.process_rules.specs.Said.{InConditions}
use Rattle.text_graphs.specs.Graphs.{graph_at}
use Rattle.text_graphs.proofs.Finding.{least_either}
use Rattle.process_rules.proofs.numbers.wrong_in_graph.Goals as goal

pub returns : goal.returns
returns c =
    let g = graph_at c.args.scope.now in
    rw c.lesser.ensures.least (least_either (AreSaidOutside g) (InConditions IsUnsized g) c.in_ok-attributes.attributes c.in_conditions.result c.in_ok-attributes.ensures c.in_conditions.ensures)
