-- The leaves of a structure: its LONG and STRING members, depth first in the order of declaration, those of arrays by
-- place from 0.
use Rattle.std.specs.Prelude.{ℕ, zero, suc, Option, None, Some, List, [], ◌∷◌, ◌++◌, length, map, slice_get}
use Rattle.std.specs.List.{flat_map, range_with_len}
use Rattle.std.specs.Option.{option_map, option_and_then}
use Rattle.flow_model.specs.declared.graphs.Kind.{Kind}
use Rattle.flow_model.specs.declared.graphs.Kind.TheVariants.{Long, Str}
use Rattle.flow_model.specs.declared.graphs.Leaf.{Leaf}
use Rattle.flow_model.specs.declared.graphs.Step.{Step}
use Rattle.flow_model.specs.declared.graphs.Step.TheVariants.{Member, Place}
use Rattle.flow_model.specs.declared.trees.KindTree.{KindTree}
use Rattle.flow_model.specs.declared.trees.KindTree.TheVariants as kind
use Rattle.flow_model.specs.declared.trees.Member.{Member as MemberTree}
use Rattle.flow_model.specs.declared.trees.NumberAt.{NumberAt}
use Rattle.flow_model.specs.declared.trees.StructDef.{StructDef}
use Rattle.leaf_rules.specs.Structures.{structure_in}

-- the leaves of the structure of a name
abbrev pub Leafing : Type 0
Leafing = List ℕ → Option (List Leaf)

-- ---- the elements of a member

-- what is said of a count: where nothing is, there is one element
abbrev pub count_said : Option NumberAt → ℕ
count_said None = 1
count_said (Some number) = number.size

-- how many elements a member has
abbrev pub element_count : MemberTree → ℕ
element_count m = count_said m.count

-- an array has a step to each place
abbrev pub place_step : Option NumberAt → ℕ → List Step
place_step None i = []
place_step (Some number) i = Place i ∷ []

-- the steps to an element: the name of the member, and the place in an array
abbrev pub element_steps : MemberTree → ℕ → List Step
element_steps m i = Member m.name.name ∷ place_step m.count i

-- ---- the leaves

-- a leaf of something that such steps lead to
abbrev pub below : List Step → Leaf → Leaf
below steps leaf = record { name = record { steps = steps ++ leaf.name.steps }; kind = leaf.kind }

-- what is a leaf itself
abbrev pub bare_leaf : Kind → Leaf
bare_leaf kind = record { name = record { steps = [] }; kind = kind }

-- the leaves of a kind, where those of structures are given
abbrev pub kind_leaves : (List ℕ → List Leaf) → KindTree → List Leaf
kind_leaves inner kind.Long = bare_leaf Long ∷ []
kind_leaves inner kind.Str = bare_leaf Str ∷ []
kind_leaves inner (kind.Struct name) = inner name.name

-- of an element of a member
abbrev pub element_leaves : (List ℕ → List Leaf) → MemberTree → ℕ → List Leaf
element_leaves inner m i = map (below (element_steps m i)) (kind_leaves inner m.kind)

-- of a member, element by element
abbrev pub member_leaves : (List ℕ → List Leaf) → MemberTree → List Leaf
member_leaves inner m = flat_map (element_leaves inner m) (range_with_len 0 (element_count m))

-- of some members, one after another
abbrev pub members_leaves : (List ℕ → List Leaf) → List MemberTree → List Leaf
members_leaves inner members = flat_map (member_leaves inner) members

-- ---- by name

-- the structure of a name: the first
abbrev pub structure_named : List StructDef → List ℕ → Option StructDef
structure_named structures name = option_and_then (λ number. slice_get structures number) (structure_in structures name)

-- the members of a structure, if there is one
abbrev pub members_said : Option StructDef → List MemberTree
members_said None = []
members_said (Some s) = s.members

-- the members of the structure of a name; none of a name that no structure has
abbrev pub members_named : List StructDef → List ℕ → List MemberTree
members_named structures name = members_said (structure_named structures name)

-- the leaves of the structure of a name, down to a depth
unfoldable pub leaves_to : List StructDef → ℕ → List ℕ → List Leaf
leaves_to structures zero name = []
leaves_to structures (suc depth) name = members_leaves (leaves_to structures depth) (members_named structures name)

-- of a structure: structures that do not reach themselves nest no deeper than there are structures
abbrev pub leaves_of : List StructDef → StructDef → List Leaf
leaves_of structures s = members_leaves (leaves_to structures (length structures)) s.members

-- of the structure of a name
abbrev pub leaves_in : List StructDef → Leafing
leaves_in structures name = option_map (leaves_of structures) (structure_named structures name)
