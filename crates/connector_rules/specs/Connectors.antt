-- Rules 9 to 12, 15 and 16: connectors and data lines of a graph.
use Rattle.std.specs.Prelude.{◌≡◌, ℕ, Bool, Option, Some, None, List, [], ◌⊎◌, MatchBool}
use Rattle.std.specs.List.{Contains}
use Rattle.flow_model.specs.declared.trees.ControlTree.{ControlTree}
use Rattle.flow_model.specs.declared.trees.DataTree.{DataTree}
use Rattle.flow_model.specs.declared.trees.ElementTree.{ElementTree}
use Rattle.flow_model.specs.declared.trees.EndTree.{EndTree}
use Rattle.flow_model.specs.declared.trees.EndTree.TheVariants.{Border, Activity as At}
use Rattle.flow_model.specs.declared.trees.EndsTree.{EndsTree}
use Rattle.flow_model.specs.declared.trees.EndsTree.TheVariants as ends
use Rattle.flow_model.specs.declared.trees.NameAt.{NameAt}
use Rattle.flow_model.specs.declared.trees.WhenTree.{WhenTree}
use Rattle.flow_model.specs.declared.trees.WhenTree.TheVariants.{Always, Cond, Otherwise}
use Rattle.graph_check.specs.Walks.{Reaches}
use Rattle.text_graphs.specs.Graphs.{GraphAt}
use Rattle.text_graphs.specs.Places.{AnyAt, PairAt}
use Rattle.text_graphs.specs.Texts.{activities_in, controls_in, lines_in, edges_in, number_in, edge_of, line_edge}
use Rattle.text_graphs.specs.Texts.{IsLineAlong}

-- ---- rule 9

-- the place of a name that no activity of the graph has
abbrev pub IsNobody : List ElementTree → NameAt → ℕ → Type 0
IsNobody elements name p = (number_in elements name.name ≡ None) × (name.place ≡ p)

-- of a connector
abbrev pub IsLoose : List ElementTree → ControlTree → ℕ → Type 0
IsLoose elements c p = IsNobody elements c.from p ⊎ IsNobody elements c.to p

-- of an end of a data line
abbrev pub IsEndNobody : List ElementTree → EndTree → ℕ → Type 0
IsEndNobody elements Border p = ⊥
IsEndNobody elements (At name) p = IsNobody elements name p

-- of a data line
abbrev pub AreEndsNobody : List ElementTree → EndsTree → ℕ → Type 0
AreEndsNobody elements (ends.Line from to) p = IsEndNobody elements from p ⊎ IsEndNobody elements to p
AreEndsNobody elements (ends.Loop name) p = IsNobody elements name p

-- of a line of the graph
abbrev pub NamesNobody : GraphAt → ℕ → Type 0
NamesNobody g p = AnyAt (IsLoose g.elements) (controls_in g.elements) p
    ⊎ AnyAt (λ l. AreEndsNobody g.elements l.ends) (lines_in g.elements) p

-- ---- rule 10

-- the place of a connector that has the same as an earlier one
pub record IsSameAgain {K : Type 0} (key : ControlTree → Option K) (before c : ControlTree) (p : ℕ) : Type 0 where
  pub same : K
  pub first : key before ≡ Some same
  pub again : key c ≡ Some same
  pub at : c.place ≡ p

-- of a second connector between the same activities
abbrev pub IsDouble : GraphAt → ℕ → Type 0
IsDouble g = PairAt (IsSameAgain (edge_of g.elements)) (controls_in g.elements)

-- ---- rule 11

-- the place of a connector from whose target a walk leads back to its source
pub record IsClosing (elements : List ElementTree) (c : ControlTree) (p : ℕ) : Type 0 where
  pub ends : ℕ × ℕ
  pub known : edge_of elements c ≡ Some ends
  pub back : Reaches (edges_in elements) ends.1 ends.0
  pub at : c.place ≡ p

-- of a connector on a closed walk of the graph
abbrev pub IsOnCycle : GraphAt → ℕ → Type 0
IsOnCycle g = AnyAt (IsClosing g.elements) (controls_in g.elements)

-- ---- rule 12

-- the place of a graph that has no activity
abbrev pub IsEmptyGraph : GraphAt → ℕ → Type 0
IsEmptyGraph g p = (activities_in g.elements ≡ []) × (g.place ≡ p)

-- ---- rule 15

abbrev pub if_otherwise : WhenTree → Option ℕ → Option ℕ
if_otherwise Always source = None
if_otherwise (Cond test) source = None
if_otherwise Otherwise source = source

abbrev pub if_tested : WhenTree → Option ℕ → Option ℕ
if_tested Always source = None
if_tested (Cond test) source = source
if_tested Otherwise source = None

-- the activity from which a connector with OTHERWISE leads
abbrev pub otherwise_source : List ElementTree → ControlTree → Option ℕ
otherwise_source elements c = if_otherwise c.when (number_in elements c.from.name)

-- the activity from which a connector with WHEN leads
abbrev pub tested_source : List ElementTree → ControlTree → Option ℕ
tested_source elements c = if_tested c.when (number_in elements c.from.name)

-- the place of an OTHERWISE from an activity that has no connector with WHEN
pub record IsUntested (elements : List ElementTree) (c : ControlTree) (p : ℕ) : Type 0 where
  pub source : ℕ
  pub leads : otherwise_source elements c ≡ Some source
  pub untested : (d : ControlTree) → Contains (controls_in elements) d → tested_source elements d ≡ Some source → ⊥
  pub at : c.place ≡ p

-- of a second OTHERWISE from one activity, or of such a one
abbrev pub IsOtherwiseWrong : GraphAt → ℕ → Type 0
IsOtherwiseWrong g p = PairAt (IsSameAgain (otherwise_source g.elements)) (controls_in g.elements) p
    ⊎ AnyAt (IsUntested g.elements) (controls_in g.elements) p

-- ---- rule 16

-- the place of a data line between two activities where no walk of connectors leads from the first to the second
pub record IsUnreachable (elements : List ElementTree) (line : DataTree) (p : ℕ) : Type 0 where
  pub ends : ℕ × ℕ
  pub known : line_edge elements line.ends ≡ Some ends
  pub apart : Reaches (edges_in elements) ends.0 ends.1 → ⊥
  pub at : line.place ≡ p

-- of a data line of the graph
abbrev pub IsUnreachableData : GraphAt → ℕ → Type 0
IsUnreachableData g = AnyAt (IsUnreachable g.elements) (lines_in g.elements)

-- of a data line it is told whether it goes along a walk; true of lines that are not between two activities
abbrev pub IsLineTold : List ElementTree → DataTree → Bool → Type 0
IsLineTold elements line told = MatchBool told (IsLineAlong elements line) (IsUnreachable elements line line.place)
