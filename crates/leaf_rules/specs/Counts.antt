-- How many leaves structures have, and rule 8: at most 512.
use Rattle.std.specs.Prelude.{◌≡◌, ℕ, ◌+◌, ◌-◌, ◌*◌, ◌^◌, ◌<◌, ◌≤◌, min, Option, None, Some, List, [], ◌∷◌, length}
use Rattle.std.specs.Prelude.{slice_get, slice_index}
use Rattle.flow_model.specs.declared.trees.KindTree.{KindTree}
use Rattle.flow_model.specs.declared.trees.KindTree.TheVariants as kind
use Rattle.flow_model.specs.declared.trees.Member.{Member}
use Rattle.flow_model.specs.declared.trees.StructDef.{StructDef}
use Rattle.text_graphs.specs.Places.{AnyAt}
use Rattle.leaf_rules.specs.Structures.{structure_in}
use Rattle.leaf_rules.specs.StructureLeaves.{element_count, members_leaves, leaves_to, leaves_of}

-- a number as far as 64 bits tell it
abbrev pub told : ℕ → ℕ
told n = min n (2 ^ 64 - 1)

-- the number of leaves of each structure is known as far as 64 bits tell it; going deeper adds none
pub record AreCounted (structures : List StructDef) (counts : List ℕ) : Type 0 where
  pub right : (number depth : ℕ) (s : StructDef) → slice_get structures number ≡ Some s → length structures ≤ depth
      → slice_index counts number ≡ told (length (members_leaves (leaves_to structures depth) s.members))

-- what is counted for the structure of this number, if there is one
abbrev pub count_at : List ℕ → Option ℕ → ℕ
count_at counts None = 0
count_at counts (Some number) = slice_index counts number

-- for one of a kind
abbrev pub kind_count : List StructDef → List ℕ → KindTree → ℕ
kind_count structures counts kind.Long = 1
kind_count structures counts kind.Str = 1
kind_count structures counts (kind.Struct name) = count_at counts (structure_in structures name.name)

-- for some members
abbrev pub members_count : List StructDef → List ℕ → List Member → ℕ
members_count structures counts [] = 0
members_count structures counts (m ∷ later) = kind_count structures counts m.kind * element_count m
    + members_count structures counts later

-- a structure has more than 512 leaves
abbrev pub IsLarge : List StructDef → StructDef → ℕ → Type 0
IsLarge structures s p = (512 < length (leaves_of structures s)) × (s.name.place ≡ p)

-- one of the text has
abbrev pub HasTooManyLeaves : List StructDef → ℕ → Type 0
HasTooManyLeaves structures = AnyAt (IsLarge structures) structures
