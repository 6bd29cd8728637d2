use Rattle.std.proofs.Common.{take}
use Rattle.connector_rules.specs.Connectors.{IsOnCycle}
use Rattle.text_graphs.specs.Graphs.{graph_at}
use Rattle.text_graphs.specs.Places.{IsLeastOf, AnyAt}
use Rattle.connector_rules.proofs.connectors.cycle.Given as goal

abbrev pub invariant-loop-scope : goal.invariant-loop-scope
invariant-loop-scope l = IsLeastOf (AnyAt (λ s. IsOnCycle (graph_at s)) (take l.scope-index l.scopes)) l.least
