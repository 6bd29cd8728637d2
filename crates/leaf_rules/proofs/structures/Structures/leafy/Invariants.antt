use Rattle.std.proofs.Common.{◌≡◌, ℕ, List, take}
use Rattle.flow_model.specs.declared.graphs.Leaf.{Leaf}
use Rattle.leaf_rules.specs.Runs.{AreKindsMade}
use Rattle.leaf_rules.specs.Structures.{behind}
use Rattle.leaf_rules.specs.StructureLeaves.{members_leaves}
use Rattle.leaf_rules.proofs.structures.Structures.leafy.Given as goal

abbrev pub invariant-loop-member : goal.invariant-loop-member
invariant-loop-member l =
    (table : List Leaf) (inner : List ℕ → List Leaf) → AreKindsMade (behind l.self.definitions.items) l.runs table inner l.structure.members
    → members_leaves inner (behind l.found.items) ≡ members_leaves inner (take l.member-index l.structure.members)
