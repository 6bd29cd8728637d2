use Rattle.std.proofs.Common.{◌≡◌, ◌++◌, take}
use Rattle.std.specs.List.{filter_map}
use Rattle.leaf_rules.specs.Structures.{behind}
use Rattle.leaf_rules.specs.KindEdges.{kind_edge}
use Rattle.leaf_rules.proofs.structures.Structures.add_kinds.Given as goal

abbrev pub invariant-loop-member : goal.invariant-loop-member
invariant-loop-member l =
    (l.edges.nodes ≡ l.fn.edges.nodes)
    × (l.edges.pairs.items ≡ l.fn.edges.pairs.items ++ filter_map (kind_edge (behind l.self.definitions.items) l.to) (take l.member-index l.structure.members))
