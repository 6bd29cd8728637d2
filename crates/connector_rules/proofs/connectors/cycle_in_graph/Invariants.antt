use Rattle.std.proofs.Common.{take}
use Rattle.text_graphs.specs.Places.{IsLeastOf, AnyAt}
use Rattle.connector_rules.specs.Connectors.{IsClosing}
use Rattle.connector_rules.proofs.connectors.cycle_in_graph.Given as goal

abbrev pub invariant-loop-control : goal.invariant-loop-control
invariant-loop-control l = IsLeastOf (AnyAt (λ x. IsClosing l.scope.elements.now x.now) (take l.control-index l.scope.controls.items)) l.least
