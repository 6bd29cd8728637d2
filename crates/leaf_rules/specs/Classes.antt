-- Classes of structures, over all texts: those of one class have the same leaves.
use Rattle.std.specs.Prelude.{◌≡◌, ℕ, true, Option, None, Some, is_some, List, [], ◌∷◌, ◌++◌, map, take, slice_get}
use Rattle.std.specs.List.{flat_map, range_with_len}
use Rattle.std.specs.Option.{option_map, option_and_then}
use Rattle.flow_model.specs.declared.graphs.Kind.TheVariants.{Long, Str}
use Rattle.flow_model.specs.declared.graphs.Leaf.{Leaf}
use Rattle.flow_model.specs.declared.graphs.Step.{Step}
use Rattle.flow_model.specs.declared.graphs.Step.TheVariants.{Member, Place}
use Rattle.flow_model.specs.declared.trees.KindTree.{KindTree}
use Rattle.flow_model.specs.declared.trees.KindTree.TheVariants as kind
use Rattle.flow_model.specs.declared.trees.Member.{Member as MemberTree}
use Rattle.flow_model.specs.declared.trees.StructDef.{StructDef}
use Rattle.leaf_rules.specs.Runs.{AreKindsMade}
use Rattle.leaf_rules.specs.Structures.{structure_in}
use Rattle.leaf_rules.specs.StructureLeaves.{Leafing, bare_leaf, below, members_leaves}
use Rattle.leaf_rules.specs.declared.forms.StructureLeaves.{StructureLeaves}
use Rattle.leaf_rules.specs.declared.leaf_classes.LeafClass.{LeafClass}
use Rattle.leaf_rules.specs.declared.leaf_classes.MemberForm.{MemberForm}
use Rattle.leaf_rules.specs.declared.leaf_classes.MemberKind.{MemberKind}
use Rattle.leaf_rules.specs.declared.leaf_classes.MemberKind.TheVariants as form
use Rattle.leaf_rules.specs.declared.rows.Run.{Run}

-- leaves by the numbers of what has them
abbrev pub Numbering : Type 0
Numbering = ℕ → Option (List Leaf)

-- the leaves of each class
abbrev pub class_leaves : List LeafClass → Numbering
class_leaves classes number = option_map (λ class. class.leaves.leaves) (slice_get classes number)

-- ---- the leaves of a form

-- an array of this size has a step to each place
abbrev pub form_place : Option ℕ → ℕ → List Step
form_place None i = []
form_place (Some size) i = Place i ∷ []

-- how many elements there are
abbrev pub form_count : Option ℕ → ℕ
form_count None = 1
form_count (Some size) = size

-- the leaves of a member of such a form, whose kind has these
abbrev pub form_leaves : MemberForm → List Leaf → List Leaf
form_leaves m inner = flat_map (λ i. map (below (Member m.name ∷ form_place m.size i)) inner)
    (range_with_len 0 (form_count m.size))

-- the leaves of a kind, where those of classes are given
abbrev pub kind_told : Numbering → MemberKind → Option (List Leaf)
kind_told leaves form.Long = Some (bare_leaf Long ∷ [])
kind_told leaves form.Str = Some (bare_leaf Str ∷ [])
kind_told leaves (form.Class class) = leaves class

-- the leaves of some members; None where a class is not known
abbrev pub forms_leaves : Numbering → List MemberForm → Option (List Leaf)
forms_leaves leaves [] = Some []
forms_leaves leaves (m ∷ later) = option_and_then
    (λ inner. option_map (λ rest. form_leaves m inner ++ rest) (forms_leaves leaves later)) (kind_told leaves m.kind)

-- ---- classes

-- a class has the leaves of its members
abbrev pub IsClassMade : Numbering → LeafClass → Type 0
IsClassMade leaves class = forms_leaves leaves class.members ≡ Some class.leaves.leaves

-- so does each of these
abbrev pub AreClassesMade : List LeafClass → Type 0
AreClassesMade classes = (number : ℕ) (class : LeafClass) → slice_get classes number ≡ Some class
    → IsClassMade (class_leaves classes) class

-- classes that are added one by one behind others: each is made of those before it
abbrev pub AreMadeBehind : List LeafClass → List LeafClass → Type 0
AreMadeBehind before added = (i : ℕ) (class : LeafClass) → slice_get added i ≡ Some class
    → IsClassMade (class_leaves (before ++ take i added)) class

-- the class of a number has these leaves, which are known
abbrev pub IsClassOf : List LeafClass → ℕ → Option (List Leaf) → Type 0
IsClassOf classes number leaves = (class_leaves classes number ≡ leaves) × (is_some leaves ≡ true)

-- ---- the structures of a text

-- those that are made for a number
abbrev pub leaves_at : List StructureLeaves → Numbering
leaves_at forms number = option_map (λ both. both.plain.leaves) (slice_get forms number)

-- two names lead to the same leaves
abbrev pub HaveSameLeaves : Leafing → List ℕ → List ℕ → Type 0
HaveSameLeaves leaves first second = (found : List Leaf) × (leaves first ≡ Some found) × (leaves second ≡ Some found)

-- the classes of structures, where they are found, have their leaves
abbrev pub AreClassed : Numbering → List LeafClass → List (Option ℕ) → Type 0
AreClassed leaves classes found = (number class : ℕ) → slice_get found number ≡ Some (Some class)
    → IsClassOf classes class (leaves number)

-- the class of the structure of a name
abbrev pub class_named : List StructDef → List (Option ℕ) → List ℕ → Option ℕ
class_named structures found name = option_and_then (λ class. class) (option_and_then (λ number. slice_get found number)
    (structure_in structures name))

-- the form of a kind, where the class of its structure is known
abbrev pub kind_form : List StructDef → List (Option ℕ) → KindTree → Option MemberKind
kind_form structures found kind.Long = Some form.Long
kind_form structures found kind.Str = Some form.Str
kind_form structures found (kind.Struct name) = option_map (λ class. form.Class class)
    (class_named structures found name.name)

-- the size that a member says of an array
abbrev pub size_said : MemberTree → Option ℕ
size_said m = option_map (λ number. number.size) m.count

-- the form of a member
abbrev pub member_form : List StructDef → List (Option ℕ) → MemberTree → Option MemberForm
member_form structures found m = option_map (λ kind. record { name = m.name.name; size = size_said m; kind = kind })
    (kind_form structures found m.kind)

-- what is known of structures whose leaves are runs of a table: by number they have the leaves of their members, and
-- by name the same
pub record AreLeavesKnown (structures : List StructDef) (runs : List Run) (table : List Leaf)
    (inner : List ℕ → List Leaf) (leaves : Numbering) : Type 0 where
  pub whole : (number : ℕ) (s : StructDef) → slice_get structures number ≡ Some s
      → leaves number ≡ Some (members_leaves inner s.members)
  pub named : (name : List ℕ) (number : ℕ) → structure_in structures name ≡ Some number
      → leaves number ≡ Some (inner name)
  pub made : (number : ℕ) (s : StructDef) → slice_get structures number ≡ Some s
      → AreKindsMade structures runs table inner s.members

-- so it is of the leaves that are made for structures
pub record HasKnownLeaves (structures : List StructDef) (runs : List Run) (forms : List StructureLeaves) : Type 0 where
  pub table : List Leaf
  pub inner : List ℕ → List Leaf
  pub known : AreLeavesKnown structures runs table inner (leaves_at forms)
