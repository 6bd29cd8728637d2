use Rattle.std.proofs.Common.{◌≡◌, None, take}
use Rattle.std.specs.List.{All, AllWithin}
use Rattle.connector_rules.specs.Connectors.{IsUnreachableData}
use Rattle.text_graphs.specs.Graphs.{graph_at}
use Rattle.text_graphs.specs.Places.{IsLeastOf, AnyAt}
use Rattle.text_graphs.specs.Texts.{lines_in, IsLineAlong}
use Rattle.connector_rules.proofs.connectors.unreachable_data.Given as goal

abbrev pub invariant-loop-scope : goal.invariant-loop-scope
invariant-loop-scope l =
    IsLeastOf (AnyAt (λ s. IsUnreachableData (graph_at s)) (take l.scope-index l.scopes)) l.least
    × (l.least ≡ None → AllWithin (λ s. All (IsLineAlong s.elements.now) (lines_in s.elements.now)) l.scopes 0 l.scope-index)
