use Rattle.std.proofs.Common.{◌≡◌, ◌++◌, ℕ, List}
use Rattle.std.specs.List.{flat_map, range_with_len}
use Rattle.flow_model.specs.declared.graphs.Leaf.{Leaf}
use Rattle.leaf_rules.specs.Runs.{IsKindMade}
use Rattle.leaf_rules.specs.Structures.{behind}
use Rattle.leaf_rules.specs.StructureLeaves.{element_leaves}
use Rattle.leaf_rules.proofs.structures.Structures.add_member.Given as goal

abbrev pub invariant-loop-element : goal.invariant-loop-element
invariant-loop-element l =
    (inner : List ℕ → List Leaf) → IsKindMade (behind l.self.definitions.items) l.runs l.initial.table inner l.member.kind
    → l.table ≡ l.initial.table ++ flat_map (element_leaves inner l.member) (range_with_len 0 l.element)
