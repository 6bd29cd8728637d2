use Rattle.std.proofs.Common.{◌≡◌, None, take}
use Rattle.std.specs.List.{AllWithin}
use Rattle.connector_rules.specs.Connectors.{IsUnreachable}
use Rattle.text_graphs.specs.Places.{IsLeastOf, AnyAt}
use Rattle.text_graphs.specs.Texts.{IsLineAlong}
use Rattle.connector_rules.proofs.connectors.unreachable_in_graph.Given as goal

abbrev pub invariant-loop-line : goal.invariant-loop-line
invariant-loop-line l =
    IsLeastOf (AnyAt (λ x. IsUnreachable l.scope.elements.now x.now) (take l.line-index l.scope.lines.items)) l.least
    × (l.least ≡ None → AllWithin (λ x. IsLineAlong l.scope.elements.now x.now) l.scope.lines.items 0 l.line-index)
