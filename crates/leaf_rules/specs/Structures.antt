-- Rule 6: names of structures that a text does not have.
use Rattle.std.specs.Borrow.{Bor}
use Rattle.std.specs.Prelude.{◌≡◌, ◌⊎◌, ℕ, Option, None, List, bytes_eq, map}
use Rattle.std.specs.HashMap as hash
use Rattle.std.specs.HashMap.{HashMap}
use Rattle.flow_model.specs.declared.trees.ActivityTree.{ActivityTree}
use Rattle.flow_model.specs.declared.trees.KindTree.{KindTree}
use Rattle.flow_model.specs.declared.trees.KindTree.TheVariants as kind
use Rattle.flow_model.specs.declared.trees.NameAt.{NameAt}
use Rattle.flow_model.specs.declared.trees.StructDef.{StructDef}
use Rattle.text_graphs.specs.Graphs.{GraphAt}
use Rattle.text_graphs.specs.Places.{AnyAt}
use Rattle.text_graphs.specs.Texts.{activities_in, first_place}

-- the first structure of a name
abbrev pub structure_in : List StructDef → List ℕ → Option ℕ
structure_in structures name = first_place (λ s. bytes_eq s.name.name name) structures

-- names lead to the first structure of each
abbrev pub AreStructuresNumbered : {S : Type 0} → List StructDef → HashMap (Bor (List ℕ)) ℕ S → Type 0
AreStructuresNumbered structures numbers = (key : List ℕ)
    → hash.get_by (λ k. bytes_eq key k.now) numbers ≡ structure_in structures key

-- what references lead to
abbrev pub behind : {X : Type 0} → List (Bor X) → List X
behind items = map (λ x. x.now) items

-- the place of a name that no structure has
abbrev pub IsNoStructure : List StructDef → NameAt → ℕ → Type 0
IsNoStructure structures name p = (structure_in structures name.name ≡ None) × (name.place ≡ p)

-- of the kind of a member
abbrev pub IsNoKind : List StructDef → KindTree → ℕ → Type 0
IsNoKind structures kind.Long p = ⊥
IsNoKind structures kind.Str p = ⊥
IsNoKind structures (kind.Struct name) p = IsNoStructure structures name p

-- of a member of a structure
abbrev pub AreNoKinds : List StructDef → StructDef → ℕ → Type 0
AreNoKinds structures s = AnyAt (λ m. IsNoKind structures m.kind) s.members

-- of a container of an activity
abbrev pub AreNoContainers : List StructDef → ActivityTree → ℕ → Type 0
AreNoContainers structures a p = IsNoStructure structures a.input p ⊎ IsNoStructure structures a.output p

-- of a container of a graph, or of one of its activities
abbrev pub AreNoContainersIn : List StructDef → GraphAt → ℕ → Type 0
AreNoContainersIn structures g p = (IsNoStructure structures g.input p ⊎ IsNoStructure structures g.output p)
    ⊎ AnyAt (AreNoContainers structures) (activities_in g.elements) p

-- of a member or a container
abbrev pub NamesNoStructure : List StructDef → (ℕ → Type 0) → ℕ → Type 0
NamesNoStructure structures in_graphs p = AnyAt (AreNoKinds structures) structures p ⊎ in_graphs p
