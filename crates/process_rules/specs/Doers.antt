-- Rules 19 and 20: the people and the activities that DONE_BY and PERFORMER OF name.
use Rattle.std.specs.Prelude.{◌≡◌, ◌||◌, ℕ, Bool, true, false, Some, List, map, bytes_eq}
use Rattle.std.specs.List.{list_any}
use Rattle.flow_model.specs.declared.graphs.Library.{Library}
use Rattle.flow_model.specs.declared.trees.ActivityTree.{ActivityTree}
use Rattle.flow_model.specs.declared.trees.AttrTree.{AttrTree}
use Rattle.flow_model.specs.declared.trees.AttrTree.TheVariants as attr
use Rattle.flow_model.specs.declared.trees.ElementTree.{ElementTree}
use Rattle.flow_model.specs.declared.trees.NameAt.{NameAt}
use Rattle.flow_model.specs.declared.trees.PersonTree.{PersonTree}
use Rattle.graph_check.specs.Walks.{Reaches}
use Rattle.text_graphs.specs.Attributes.{is_start_manual}
use Rattle.text_graphs.specs.Graphs.{GraphAt}
use Rattle.text_graphs.specs.Places.{AnyAt}
use Rattle.text_graphs.specs.Texts.{activities_in, activity_named, edges_in, number_in}
use Rattle.process_rules.specs.Numbering.{NumberedAt}

-- ---- rule 19

-- a person of the text or of the library has this name
abbrev pub is_person : Library → List PersonTree → List ℕ → Bool
is_person library people name = list_any (λ n. bytes_eq name n.name) (map (λ q. q.name) people) || list_any
    (λ q. bytes_eq q.name name) library.people

-- the place of the name of somebody who is none of these
abbrev pub IsNoPerson : (List ℕ → Bool) → AttrTree → ℕ → Type 0
IsNoPerson is_one (attr.When j) p = ⊥
IsNoPerson is_one (attr.Exit c) p = ⊥
IsNoPerson is_one (attr.Start manual) p = ⊥
IsNoPerson is_one (attr.Expires number) p = ⊥
IsNoPerson is_one (attr.Role name) p = ⊥
IsNoPerson is_one (attr.Person name) p = (is_one name.name ≡ false) × (name.place ≡ p)
IsNoPerson is_one attr.Starter p = ⊥
IsNoPerson is_one (attr.Performer name) p = ⊥

-- in an attribute of an activity of a graph
abbrev pub NamesNoneOf : (List ℕ → Bool) → GraphAt → ℕ → Type 0
NamesNoneOf is_one g = AnyAt (λ a. AnyAt (λ x. IsNoPerson is_one x.what) a.attrs) (activities_in g.elements)

-- of nobody of the text or of the library
abbrev pub NamesNoPerson : Library → List PersonTree → GraphAt → ℕ → Type 0
NamesNoPerson library people = NamesNoneOf (is_person library people)

-- ---- rule 20

-- a walk leads from the activity of a name to that of a number
abbrev pub Leads : List ElementTree → List ℕ → ℕ → Type 0
Leads elements name to = (from : ℕ) × (number_in elements name ≡ Some from) × Reaches (edges_in elements) from to

-- the activity of a name is manual
abbrev pub IsManual : List ElementTree → List ℕ → Type 0
IsManual elements name = (a : ActivityTree) × (activity_named elements name ≡ Some a)
    × (list_any (λ x. is_start_manual x.what) a.attrs ≡ true)

-- the activity of a name is manual, and leads to that of a number
abbrev pub IsPerformer : List ElementTree → List ℕ → ℕ → Type 0
IsPerformer elements name to = Leads elements name to × IsManual elements name

-- the place of a name that is no such activity's
abbrev pub IsWrongName : List ElementTree → ℕ → NameAt → ℕ → Type 0
IsWrongName elements to name p = (IsPerformer elements name.name to → ⊥) × (name.place ≡ p)

-- in an attribute
abbrev pub IsNoPerformer : List ElementTree → ℕ → AttrTree → ℕ → Type 0
IsNoPerformer elements to (attr.When j) p = ⊥
IsNoPerformer elements to (attr.Exit c) p = ⊥
IsNoPerformer elements to (attr.Start manual) p = ⊥
IsNoPerformer elements to (attr.Expires number) p = ⊥
IsNoPerformer elements to (attr.Role name) p = ⊥
IsNoPerformer elements to (attr.Person name) p = ⊥
IsNoPerformer elements to attr.Starter p = ⊥
IsNoPerformer elements to (attr.Performer name) p = IsWrongName elements to name p

-- PERFORMER OF
abbrev pub is_performer : AttrTree → Bool
is_performer (attr.When j) = false
is_performer (attr.Exit c) = false
is_performer (attr.Start manual) = false
is_performer (attr.Expires number) = false
is_performer (attr.Role name) = false
is_performer (attr.Person name) = false
is_performer attr.Starter = false
is_performer (attr.Performer name) = true

-- in an attribute of an activity of a graph
abbrev pub NamesNoPerformer : GraphAt → ℕ → Type 0
NamesNoPerformer g = NumberedAt (λ number a. AnyAt (λ x. IsNoPerformer g.elements number x.what) a.attrs)
    (activities_in g.elements)
