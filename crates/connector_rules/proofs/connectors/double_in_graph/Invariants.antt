use Rattle.std.proofs.Common.{take, map}
use Rattle.connector_rules.specs.EdgesMet.{AreEdgesMet}
use Rattle.connector_rules.proofs.connectors.double_in_graph.Given as goal

abbrev pub invariant-loop-control : goal.invariant-loop-control
invariant-loop-control l = AreEdgesMet l.scope.elements.now l.doubles (take l.control-index (map (λ c. c.now) l.scope.controls.items))
