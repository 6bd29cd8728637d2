use Rattle.process_rules.specs.Counts.{IsLineExtra, IsLarge}
use Rattle.process_rules.specs.Said.{InConditions}
use Rattle.text_graphs.specs.Graphs.{graph_at}
use Rattle.text_graphs.proofs.Finding.{least_either}
use Rattle.process_rules.proofs.counts.too_much_in_graph.Goals as goal

pub returns-clause-found : goal.returns-clause-found
returns-clause-found c =
    let g = graph_at c.args.scope.now in
    rw c.lesser.ensures.least (least_either (IsLineExtra g) (InConditions IsLarge g) c.extra_in_graph.result c.in_conditions.result c.extra_in_graph.ensures.extra c.in_conditions.ensures)
