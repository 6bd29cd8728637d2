use Rattle.std.proofs.Common.{take, map}
use Rattle.connector_rules.specs.EdgesMet.{AreOtherwisesMet}
use Rattle.connector_rules.proofs.otherwises.again_in_graph.Given as goal

abbrev pub invariant-loop-control : goal.invariant-loop-control
invariant-loop-control l = AreOtherwisesMet l.scope.elements.now l.sources (take l.control-index (map (λ c. c.now) l.scope.controls.items))
