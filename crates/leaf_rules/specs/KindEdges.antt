-- Rule 7: structures that reach themselves through the kinds of their members.
use Rattle.std.specs.Prelude.{◌≡◌, ℕ, ◌+◌, Option, None, Some, List, [], ◌∷◌, ◌++◌, slice_get}
use Rattle.std.specs.List.{filter_map}
use Rattle.std.specs.Option.{option_map}
use Rattle.flow_model.specs.declared.trees.KindTree.{KindTree}
use Rattle.flow_model.specs.declared.trees.KindTree.TheVariants as kind
use Rattle.flow_model.specs.declared.trees.Member.{Member}
use Rattle.flow_model.specs.declared.trees.StructDef.{StructDef}
use Rattle.graph_check.specs.Walks.{Reaches}
use Rattle.leaf_rules.specs.Structures.{structure_in}

-- the structure that a kind is
abbrev pub kind_in : List StructDef → KindTree → Option ℕ
kind_in structures kind.Long = None
kind_in structures kind.Str = None
kind_in structures (kind.Struct name) = structure_in structures name.name

-- an edge to the structure of this number from the kind of one of its members
abbrev pub kind_edge : List StructDef → ℕ → Member → Option (ℕ × ℕ)
kind_edge structures number m = option_map (λ inner. (inner, number)) (kind_in structures m.kind)

-- to some structures, numbered from this number on
abbrev pub edges_from : List StructDef → ℕ → List StructDef → List (ℕ × ℕ)
edges_from structures number [] = []
edges_from structures number (s ∷ later) = filter_map (kind_edge structures number) s.members
    ++ edges_from structures (number + 1) later

-- to each structure
abbrev pub kind_edges : List StructDef → List (ℕ × ℕ)
kind_edges structures = edges_from structures 0 structures

-- the place of a structure that reaches itself
pub record IsInStructureCycle (structures : List StructDef) (p : ℕ) : Type 0 where
  pub number : ℕ
  pub s : StructDef
  pub is : slice_get structures number ≡ Some s
  pub closed : Reaches (kind_edges structures) number number
  pub at : s.name.place ≡ p
