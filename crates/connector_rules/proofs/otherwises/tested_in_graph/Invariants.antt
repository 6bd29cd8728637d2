use Rattle.std.proofs.Common.{take, map}
use Rattle.connector_rules.specs.EdgesMet.{AreTested}
use Rattle.connector_rules.proofs.otherwises.tested_in_graph.Given as goal

abbrev pub invariant-loop-control : goal.invariant-loop-control
invariant-loop-control l = AreTested l.scope.elements.now l.tested (take l.control-index (map (λ c. c.now) l.scope.controls.items))
