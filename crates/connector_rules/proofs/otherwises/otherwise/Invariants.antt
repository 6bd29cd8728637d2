use Rattle.std.proofs.Common.{take}
use Rattle.connector_rules.specs.Connectors.{IsOtherwiseWrong}
use Rattle.text_graphs.specs.Graphs.{graph_at}
use Rattle.text_graphs.specs.Places.{IsLeastOf, AnyAt}
use Rattle.connector_rules.proofs.otherwises.otherwise.Given as goal

abbrev pub invariant-loop-scope : goal.invariant-loop-scope
invariant-loop-scope l = IsLeastOf (AnyAt (λ s. IsOtherwiseWrong (graph_at s)) (take l.scope-index l.scopes)) l.least
