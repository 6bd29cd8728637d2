use Rattle.std.proofs.Common.{take}
use Rattle.text_graphs.specs.Places.{IsLeastOf, AnyAt}
use Rattle.connector_rules.specs.Connectors.{AreEndsNobody}
use Rattle.connector_rules.proofs.connectors.unknown_in_lines.Given as goal

abbrev pub invariant-loop-line : goal.invariant-loop-line
invariant-loop-line l = IsLeastOf (AnyAt (λ x. AreEndsNobody l.scope.elements.now x.now.ends) (take l.line-index l.scope.lines.items)) l.least
