use Rattle.std.proofs.Common.{◌≡◌, ◌++◌, drop, length}
use Rattle.leaf_rules.specs.Structures.{behind}
use Rattle.leaf_rules.specs.KindEdges.{edges_from, kind_edges}
use Rattle.leaf_rules.proofs.structures.Structures.edges.Given as goal

abbrev pub invariant-loop-i : goal.invariant-loop-i
invariant-loop-i l =
    (l.edges.nodes ≡ length (behind l.self.definitions.items))
    × (l.edges.pairs.items ++ edges_from (behind l.self.definitions.items) l.i (drop l.i (behind l.self.definitions.items)) ≡ kind_edges (behind l.self.definitions.items))
