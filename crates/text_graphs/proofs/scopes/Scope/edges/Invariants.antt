use Rattle.std.proofs.Common.{◌≡◌, length, map, take}
use Rattle.std.specs.List.{filter_map}
use Rattle.text_graphs.specs.Texts.{activities_in, edge_of}
use Rattle.text_graphs.proofs.scopes.Scope.edges.Given as goal

abbrev pub invariant-loop-control : goal.invariant-loop-control
invariant-loop-control l =
    (l.edges.nodes ≡ length (activities_in l.self.elements.now))
    × (l.edges.pairs.items ≡ filter_map (edge_of l.self.elements.now) (take l.control-index (map (λ c. c.now) l.self.controls.items)))
