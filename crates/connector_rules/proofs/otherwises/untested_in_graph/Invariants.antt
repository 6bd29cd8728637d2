use Rattle.std.proofs.Common.{take}
use Rattle.text_graphs.specs.Texts.{controls_in}
use Rattle.connector_rules.specs.EdgesMet.{AreTested}
use Rattle.text_graphs.specs.Places.{IsLeastOf, AnyAt}
use Rattle.connector_rules.specs.Connectors.{IsUntested}
use Rattle.connector_rules.proofs.otherwises.untested_in_graph.Given as goal

abbrev pub invariant-loop-control : goal.invariant-loop-control
invariant-loop-control l = AreTested l.scope.elements.now l.tested (controls_in l.scope.elements.now) × IsLeastOf (AnyAt (λ x. IsUntested l.scope.elements.now x.now) (take l.control-index l.scope.controls.items)) l.least
