-- What the text of a graph says: its activities, connectors and data lines, the activities that names stand for, and
-- which graphs stand in it.
use Rattle.std.specs.Borrow.{Bor}
use Rattle.std.specs.Prelude.{◌≡◌, ℕ, ◌+◌, ◌<◌, ◌≤◌, Bool, if◌then◌else◌, Option, Some, None, List, [], ◌∷◌, bytes_eq}
use Rattle.std.specs.Prelude.{length, map, slice_get}
use Rattle.std.specs.List.{All, AllPairs, filter_map}
use Rattle.std.specs.Option.{option_map, option_and_then}
use Rattle.std.specs.HashMap as hash
use Rattle.std.specs.HashMap.{HashMap}
use Rattle.flow_model.specs.declared.trees.ActivityTree.{ActivityTree}
use Rattle.flow_model.specs.declared.trees.ControlTree.{ControlTree}
use Rattle.flow_model.specs.declared.trees.DataTree.{DataTree}
use Rattle.flow_model.specs.declared.trees.ElementTree.{ElementTree, Activity', Control, Line}
use Rattle.flow_model.specs.declared.trees.EndTree.TheVariants.{Border, Activity as At}
use Rattle.flow_model.specs.declared.trees.EndsTree.{EndsTree}
use Rattle.flow_model.specs.declared.trees.EndsTree.TheVariants as ends
use Rattle.flow_model.specs.declared.trees.ItemTree.{ItemTree}
use Rattle.flow_model.specs.declared.trees.ItemTree.TheVariants as item
use Rattle.flow_model.specs.declared.trees.PersonTree.{PersonTree}
use Rattle.flow_model.specs.declared.trees.ProcessTree.{ProcessTree}
use Rattle.flow_model.specs.declared.trees.StructDef.{StructDef}
use Rattle.graph_check.specs.Walks.{Reaches}
use Rattle.text_graphs.specs.ClosedWalks.{IsAcyclic}

-- ---- the elements by kind

-- the activity that an element is
abbrev pub activity_of : ElementTree → Option ActivityTree
activity_of (Activity' place work name input output attrs end) = Some
    (record { place = place; work = work; name = name; input = input; output = output; attrs = attrs; end = end })
activity_of (Control c) = None
activity_of (Line l) = None

-- the connector that an element is
abbrev pub control_of : ElementTree → Option ControlTree
control_of (Activity' place work name input output attrs end) = None
control_of (Control c) = Some c
control_of (Line l) = None

-- the data line that an element is
abbrev pub line_of : ElementTree → Option DataTree
line_of (Activity' place work name input output attrs end) = None
line_of (Control c) = None
line_of (Line l) = Some l

-- the activities of a graph, in the order of the text
abbrev pub activities_in : List ElementTree → List ActivityTree
activities_in = filter_map activity_of

-- their names
abbrev pub names_in : List ElementTree → List (List ℕ)
names_in elements = map (λ a. a.name.name) (activities_in elements)

-- its connectors, in the order of the text
abbrev pub controls_in : List ElementTree → List ControlTree
controls_in = filter_map control_of

-- its data lines, in the order of the text
abbrev pub lines_in : List ElementTree → List DataTree
lines_in = filter_map line_of

-- the process that an item is
abbrev pub process_of : ItemTree → Option ProcessTree
process_of (item.Structure s) = None
process_of (item.Person p) = None
process_of (item.Process p) = Some p

-- the processes of a text, in order
abbrev pub processes_in : List ItemTree → List ProcessTree
processes_in = filter_map process_of

-- the structures of a text, in order
abbrev pub structure_of : ItemTree → Option StructDef
structure_of (item.Structure s) = Some s
structure_of (item.Person p) = None
structure_of (item.Process p) = None

abbrev pub structures_in : List ItemTree → List StructDef
structures_in = filter_map structure_of

-- its people
abbrev pub person_of : ItemTree → Option PersonTree
person_of (item.Structure s) = None
person_of (item.Person p) = Some p
person_of (item.Process p) = None

abbrev pub people_in : List ItemTree → List PersonTree
people_in = filter_map person_of

-- ---- what names stand for

-- the place of the first element that passes
abbrev pub first_place : {X : Type 0} → (X → Bool) → List X → Option ℕ
first_place test [] = None
first_place test (x ∷ xs) = if test x then Some 0 else option_map (λ place. place + 1) (first_place test xs)

-- names lead to the first activity of each
abbrev pub AreNumbered : {S : Type 0} → List ActivityTree → HashMap (Bor (List ℕ)) ℕ S → Type 0
AreNumbered activities numbers = (key : List ℕ)
    → hash.get_by (λ k. bytes_eq key k.now) numbers ≡ first_place (λ a. bytes_eq a.name.name key) activities

-- the first activity of a name
abbrev pub number_in : List ElementTree → List ℕ → Option ℕ
number_in elements name = first_place (λ a. bytes_eq a.name.name name) (activities_in elements)

-- the activity of a name
abbrev pub activity_named : List ElementTree → List ℕ → Option ActivityTree
activity_named elements name = option_and_then (λ place. slice_get (activities_in elements) place)
    (number_in elements name)

-- two numbers, where both are there
abbrev pub pair_of : Option ℕ → Option ℕ → Option (ℕ × ℕ)
pair_of None to = None
pair_of (Some a) None = None
pair_of (Some a) (Some b) = Some (a, b)

-- the numbers of a connector's ends, where both are known
abbrev pub edge_of : List ElementTree → ControlTree → Option (ℕ × ℕ)
edge_of elements c = pair_of (number_in elements c.from.name) (number_in elements c.to.name)

-- the connectors between known activities, as pairs of numbers
abbrev pub edges_in : List ElementTree → List (ℕ × ℕ)
edges_in elements = filter_map (edge_of elements) (controls_in elements)

-- ---- what the rules ask of a graph

-- the numbers of the two activities of a data line between activities, where both are known
abbrev pub line_edge : List ElementTree → EndsTree → Option (ℕ × ℕ)
line_edge elements (ends.Line Border to) = None
line_edge elements (ends.Line (At from) Border) = None
line_edge elements (ends.Line (At from) (At to)) = pair_of (number_in elements from.name) (number_in elements to.name)
line_edge elements (ends.Loop name) = None

-- a walk along the connectors leads from the first activity of a data line to the second
abbrev pub IsLineAlong : List ElementTree → DataTree → Type 0
IsLineAlong elements line = (a b : ℕ) → line_edge elements line.ends ≡ Some (a, b) → Reaches (edges_in elements) a b

-- no walk leads back along a connector
abbrev pub IsNotClosing : List ElementTree → ControlTree → Type 0
IsNotClosing elements c = (a b : ℕ) → edge_of elements c ≡ Some (a, b) → Reaches (edges_in elements) b a → ⊥

-- no two are the same
abbrev pub AllDiffer : {X : Type 0} → List X → Type 0
AllDiffer xs = AllPairs (λ x y. x ≡ y → ⊥) xs

-- rule 5: no two activities have one name
abbrev pub AreNamesApart : List ElementTree → Type 0
AreNamesApart elements = AllDiffer (names_in elements)

-- rules 10 to 12: no two connectors have the same ends, none closes a walk, and there is an activity
pub record IsConnected (elements : List ElementTree) : Type 0 where
  pub simple : AllDiffer (edges_in elements)
  pub acyclic : IsAcyclic (edges_in elements)
  pub peopled : 0 < length (activities_in elements)

-- rule 24: there are not too many connectors or activities
pub record IsLimited (elements : List ElementTree) : Type 0 where
  pub few : length (controls_in elements) ≤ 4096
  pub small : length (activities_in elements) ≤ 1024

-- what holds of a graph in which rules 5, 10 to 12, 16 and 24 find nothing
pub record IsJudged (elements : List ElementTree) : Type 0 where
  pub named : AreNamesApart elements
  pub connected : IsConnected elements
  pub along : All (IsLineAlong elements) (lines_in elements)
  pub limited : IsLimited elements
