-- Rules 4 and 5: the names after END, and what is declared twice.
use Rattle.std.specs.Prelude.{◌≡◌, ℕ, List, map, ◌⊎◌}
use Rattle.flow_model.specs.declared.trees.AttrAt.{AttrAt}
use Rattle.flow_model.specs.declared.trees.AttrTree.{AttrTree}
use Rattle.flow_model.specs.declared.trees.AttrTree.TheVariants as attr
use Rattle.flow_model.specs.declared.trees.ItemTree.{ItemTree}
use Rattle.flow_model.specs.declared.trees.ItemTree.TheVariants as item
use Rattle.flow_model.specs.declared.trees.NameAt.{NameAt}
use Rattle.text_graphs.specs.Graphs.{GraphAt}
use Rattle.text_graphs.specs.Meeting.{IsAgainAt}
use Rattle.text_graphs.specs.Places.{AnyAt, PairAt}
use Rattle.text_graphs.specs.Texts.{activities_in, people_in, processes_in, structures_in}
use Rattle.name_rules.specs.declared.names.AttributeKind.{AttributeKind}
use Rattle.name_rules.specs.declared.names.AttributeKind.TheVariants as kind

-- ---- rule 4

-- the place of a name after END that is not the opening one
abbrev pub IsOtherEnd : NameAt → NameAt → ℕ → Type 0
IsOtherEnd name end p = (name.name ≡ end.name → ⊥) × (end.place ≡ p)

-- of an item
abbrev pub IsItemEnd : ItemTree → ℕ → Type 0
IsItemEnd (item.Structure s) p = IsOtherEnd s.name s.end p
IsItemEnd (item.Person q) p = IsOtherEnd q.name q.end p
IsItemEnd (item.Process q) p = IsOtherEnd q.name q.end p

-- of an activity of a graph
abbrev pub AreActivityEnds : GraphAt → ℕ → Type 0
AreActivityEnds g = AnyAt (λ a. IsOtherEnd a.name a.end) (activities_in g.elements)

-- of an item of the text, or in one of its graphs
abbrev pub IsEndWrong : List ItemTree → (ℕ → Type 0) → ℕ → Type 0
IsEndWrong items in_graphs p = AnyAt IsItemEnd items p ⊎ in_graphs p

-- ---- rule 5

-- the place of a second structure, person or process of one name
abbrev pub IsItemAgain : List ItemTree → ℕ → Type 0
IsItemAgain items p = PairAt IsAgainAt (map (λ s. s.name) (structures_in items)) p
    ⊎ (PairAt IsAgainAt (map (λ q. q.name) (people_in items)) p
    ⊎ PairAt IsAgainAt (map (λ q. q.name) (processes_in items)) p)

-- of a second member of a structure, or role of a person
abbrev pub IsPartAgain : ItemTree → ℕ → Type 0
IsPartAgain (item.Structure s) p = PairAt IsAgainAt (map (λ m. m.name) s.members) p
IsPartAgain (item.Person q) p = PairAt IsAgainAt q.roles p
IsPartAgain (item.Process q) p = ⊥

-- the kind of an attribute; what DONE_BY says is of one kind
abbrev pub kind_said : AttrTree → AttributeKind
kind_said (attr.When j) = kind.When
kind_said (attr.Exit c) = kind.Exit
kind_said (attr.Start manual) = kind.Start
kind_said (attr.Expires number) = kind.Expires
kind_said (attr.Role name) = kind.DoneBy
kind_said (attr.Person name) = kind.DoneBy
kind_said attr.Starter = kind.DoneBy
kind_said (attr.Performer name) = kind.DoneBy

-- of a second attribute of one kind
abbrev pub IsKindAgain : AttrAt → AttrAt → ℕ → Type 0
IsKindAgain before a p = (kind_said before.what ≡ kind_said a.what) × (a.place ≡ p)

-- of an activity of a graph
abbrev pub AreAttributesAgain : GraphAt → ℕ → Type 0
AreAttributesAgain g = AnyAt (λ a. PairAt IsKindAgain a.attrs) (activities_in g.elements)

-- of a second activity of one name in a graph, or a second attribute
abbrev pub IsInsideAgain : GraphAt → ℕ → Type 0
IsInsideAgain g p = PairAt IsAgainAt (map (λ a. a.name) (activities_in g.elements)) p ⊎ AreAttributesAgain g p

-- of anything that is declared twice
abbrev pub IsTwice : List ItemTree → (ℕ → Type 0) → ℕ → Type 0
IsTwice items in_graphs p = (IsItemAgain items p ⊎ AnyAt IsPartAgain items p) ⊎ in_graphs p
