-- One event of a root: what it needs of its scope, and that the navigator does then what the machine does.
use Rattle.std.specs.Prelude.{◌≡◌, ℕ, Bool, Option, Some, None, List, ◌∷◌, ◌++◌, slice_get}
use Rattle.activity_states.specs.States.{State}
use Rattle.dead_paths.specs.Tallies.{Counts}
use Rattle.dead_paths.specs.declared.joins.Tally.{Tally}
use Rattle.flow_model.specs.ScopeContainers.{graph_in}
use Rattle.flow_model.specs.Wiring.{IsSinking}
use Rattle.flow_model.specs.declared.graphs.Activity.{Activity}
use Rattle.flow_model.specs.declared.graphs.Graph.{Graph, out-Graph}
use Rattle.flow_model.specs.declared.graphs.Template.{Template}
use Rattle.flow_model.specs.declared.instances.Message.{Message}
use Rattle.flow_model.specs.declared.instances.Path.{Path}
use Rattle.flow_model.specs.declared.names.Name.{Name}
use Rattle.machine.specs.Moves as m
use Rattle.navigator.specs.Events.{IsUsable, Happening, Begins, Signals, Ends, Completes, Happens}
use Rattle.navigator.specs.Reading.{place_of, inner_of}
use Rattle.navigator.specs.Steps.{fields, AreTallied}
use Rattle.navigator.specs.declared.scopes.ActivityState.{ActivityState, Program}
use Rattle.navigator.specs.declared.scopes.ScopeState.{ScopeState}
use Rattle.machine_scopes.specs.Seen.{scopes_of, Along}

-- an event of the navigator, as the machine names it
abbrev pub as_move : Happening → m.Happening
as_move Begins = m.Begins
as_move (Signals name v) = m.Signals name v
as_move (Ends name j) = m.Ends name j
as_move (Completes name c) = m.Completes name c

-- ---- a scope that an event meets as it needs it

-- each activity has a tally, which counts some values
pub record MeetsBegin (g : Graph) (s : ScopeState) : Type 0 where
  pub usable : IsUsable g
  pub values : ℕ → List (Option Bool)
  pub tallied : AreTallied g values (fields s).tallies

-- the activity of this name has a tally that counts a value which isn't known
pub record MeetsSignal (name : Name) (g : Graph) (s : ScopeState) : Type 0 where
  pub usable : IsUsable g
  pub place : ℕ
  pub activity : Activity
  pub tally : Tally
  pub before : List (Option Bool)
  pub behind : List (Option Bool)
  pub named : place_of g name ≡ Some place
  pub there : slice_get (out-Graph g).activities place ≡ Some activity
  pub tallied : slice_get (fields s).tallies place ≡ Some tally
  pub counts : Counts tally (before ++ None ∷ behind)

-- the activity of this name has the scope of this attempt
pub record MeetsEnd (ts : List Template) (name : Name) (j : ℕ) (g : Graph) (s : ScopeState) : Type 0 where
  pub usable : IsUsable g
  pub place : ℕ
  pub activity : Activity
  pub was : ActivityState
  pub graph : Graph
  pub inner : ScopeState
  pub named : place_of g name ≡ Some place
  pub there : slice_get (out-Graph g).activities place ≡ Some activity
  pub stands : slice_get (fields s).states place ≡ Some was
  pub runs : graph_in ts activity.work ≡ Some graph
  pub sinking : IsSinking graph
  pub has : inner_of s place j ≡ Some inner

-- the activity of this name runs a program
pub record MeetsCompletion (name : Name) (g : Graph) (s : ScopeState) : Type 0 where
  pub usable : IsUsable g
  pub place : ℕ
  pub activity : Activity
  pub state : State
  pub named : place_of g name ≡ Some place
  pub there : slice_get (out-Graph g).activities place ≡ Some activity
  pub stands : slice_get (fields s).states place ≡ Some (Program state)

-- the scope has what the event needs
abbrev pub Meets : List Template → Happening → Graph → ScopeState → Type 0
Meets ts Begins g s = MeetsBegin g s
Meets ts (Signals name v) g s = MeetsSignal name g s
Meets ts (Ends name j) g s = MeetsEnd ts name j g s
Meets ts (Completes name c) g s = MeetsCompletion name g s

-- ---- the law

-- the scopes after it, what it gives and which items became ready are those that the machine says
pub record IsAsMoved (s' : ScopeState) (given : List Message) (items : List Path) (o : m.Outcome) : Type 0 where
  pub scopes : o.scopes ≡ scopes_of s'
  pub gives : given ≡ m.given_of o.told
  pub ready : items ≡ o.told.ready

-- an event that is met does to the scopes of a root what the machine does
abbrev pub EventsAreMoves : Type 0
EventsAreMoves =
    (ts : List Template) (path : Path) (clock : ℕ) (e : Happening) (g : Graph) (s s' : ScopeState)
    (given : List Message) (items : List Path)
    → Along ts (Meets ts e) path.parts g s → Happens ts path clock e g s s' given items
    → IsAsMoved s' given items (m.happens ts path clock (as_move e) g (scopes_of s))
