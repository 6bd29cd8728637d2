-- What an event does to the scope that receives it, and that it changes no other one.
use Rattle.std.specs.Prelude.{◌≡◌, ℕ, ◌≤◌, ◌^◌, Bool, Option, Some, None, List, [], ◌∷◌, ◌++◌, length, slice_get}
use Rattle.std.specs.Prelude.{slice_set}
use Rattle.activity_states.specs.States.{State}
use Rattle.activity_states.specs.declared.states.Completed.{Completed}
use Rattle.dead_paths.specs.Tallies.{Counts}
use Rattle.dead_paths.specs.declared.joins.Tally.{Tally}
use Rattle.flow_model.specs.ScopeContainers.{graph_in}
use Rattle.flow_model.specs.Wiring.{IsFeeding, IsLooping, IsOutgoing, IsSinking}
use Rattle.flow_model.specs.declared.graphs.Activity.{Activity}
use Rattle.flow_model.specs.declared.graphs.Graph.{Graph, out-Graph}
use Rattle.flow_model.specs.declared.graphs.Template.{Template}
use Rattle.flow_model.specs.declared.instances.Part.{Part}
use Rattle.flow_model.specs.declared.instances.Message.{Message}
use Rattle.flow_model.specs.declared.instances.Message.TheVariants.{Begin, Signal, End}
use Rattle.flow_model.specs.declared.instances.Path.{Path}
use Rattle.flow_model.specs.declared.names.Name.{Name}
use Rattle.navigator.specs.Reading.{place_of, attempt_place, inner_of}
use Rattle.navigator.specs.Steps.{Told, fields, with_state, given_by, AreTallied, BeginsAll, TakesSignal, EndsAttempt}
use Rattle.navigator.specs.Steps.{Completes as CompletesItem}
use Rattle.navigator.specs.declared.changes.Event.{Event}
use Rattle.navigator.specs.declared.changes.Event.TheVariants as events
use Rattle.navigator.specs.declared.scopes.ActivityState.{ActivityState, Program, Nested}
use Rattle.navigator.specs.declared.scopes.NestedState.{NestedState, out-NestedState}
use Rattle.navigator.specs.declared.scopes.ScopeState.{ScopeState}

-- the rows of the wiring that an event reads are right, and places fit 32 bits
pub record IsUsable (g : Graph) : Type 0 where
  pub feeding : IsFeeding g
  pub outgoing : IsOutgoing g
  pub looping : IsLooping g
  pub small : length (out-Graph g).activities ≤ 2 ^ 32

-- what happens to a scope: its BEGIN, the SIGNAL of a connector that leads to this activity, the END of an attempt of
-- this activity, a completion
pub data Happening : Type 0 where
  Begins : Happening
  Signals : Name → Bool → Happening
  Ends : Name → ℕ → Happening
  Completes : Name → Completed → Happening

abbrev pub happening : Event → Happening
happening events.Begin = Begins
happening (events.Signal name v) = Signals name.now v
happening (events.End name j) = Ends name.now j
happening (events.Complete name out performer) = Completes name.now (record { output = out; performer = performer })

-- it is received by a scope: a BEGIN where each activity has a tally, a SIGNAL of a value that isn't known, the END of
-- a scope that is there,
-- the completion of a program activity
abbrev pub Receives : List Template → Path → ℕ → Happening → Told → Told → Graph → ScopeState → ScopeState → Type 0
Receives ts path clock Begins before after g s s' =
    (values : ℕ → List (Option Bool)) → AreTallied g values (fields s).tallies
    → BeginsAll ts g path clock values (fields s) (fields s') before after
Receives ts path clock (Signals name v) before after g s s' =
    (a : ℕ) (activity : Activity) (t : Tally) (xs ys : List (Option Bool)) → place_of g name ≡ Some a
    → slice_get (out-Graph g).activities a ≡ Some activity
    → slice_get (fields s).tallies a ≡ Some t → Counts t (xs ++ None ∷ ys)
    → TakesSignal ts g path clock a activity (xs ++ Some v ∷ ys) (fields s) (fields s') before after
Receives ts path clock (Ends name j) before after g s s' =
    (a : ℕ) (activity : Activity) (was : ActivityState) (h : Graph) (inner : ScopeState) → place_of g name ≡ Some a
    → slice_get (out-Graph g).activities a ≡ Some activity
    → slice_get (fields s).states a ≡ Some was → graph_in ts activity.work ≡ Some h → IsSinking h
    → inner_of s a j ≡ Some inner
    → EndsAttempt g h path a activity was (given_by h inner) (fields s) (fields s') before after
Receives ts path clock (Completes name c) before after g s s' =
    (a : ℕ) (activity : Activity) (p : State) → place_of g name ≡ Some a
    → slice_get (out-Graph g).activities a ≡ Some activity
    → slice_get (fields s).states a ≡ Some (Program p)
    → CompletesItem g path clock a activity p c (fields s) (fields s') before after

-- what happens to a scope of this graph
abbrev pub ScopeChange : Type 1
ScopeChange = Graph → ScopeState → ScopeState → Type 0

-- one scope of a block or process activity changes, at this place
pub record ChangesScope (change : ScopeState → ScopeState → Type 0) (i : ℕ) (inner : ScopeState)
    (n n' : NestedState) : Type 0 where
  pub next : ScopeState
  pub changes : change inner next
  pub scopes : (out-NestedState n').scopes.items ≡ slice_set (out-NestedState n).scopes.items i next
  pub stage : (out-NestedState n').stage ≡ (out-NestedState n).stage

-- so in the state of its activity
abbrev pub ChangesState : (ScopeState → ScopeState → Type 0) → ℕ → ScopeState → NestedState → ActivityState → Type 0
ChangesState change i inner n (Program p) = ⊥
ChangesState change i inner n (Nested n') = ChangesScope change i inner n n'

-- one scope of the activity at a place changes, and nothing else of the scope around it
pub record ChangesInside (change : ScopeState → ScopeState → Type 0) (a i : ℕ) (inner : ScopeState) (n : NestedState)
    (s s' : ScopeState) : Type 0 where
  pub state : ActivityState
  pub inside : ChangesState change i inner n state
  pub around : fields s' ≡ with_state a state (fields s)

-- only the scope to which the parts lead changes
abbrev pub ChangesAt : List Template → ScopeChange → List Part → Graph → ScopeState → ScopeState → Type 0
ChangesAt ts change [] g s s' = change g s s'
ChangesAt ts change (q ∷ qs) g s s' =
    (a i : ℕ) (activity : Activity) (h : Graph) (n : NestedState) (inner : ScopeState) → place_of g q.name ≡ Some a
    → slice_get (out-Graph g).activities a ≡ Some activity
    → graph_in ts activity.work ≡ Some h → attempt_place q.attempt ≡ Some i
    → slice_get (fields s).states a ≡ Some (Nested n)
    → slice_get (out-NestedState n).scopes.items i ≡ Some inner
    → ChangesInside (ChangesAt ts change qs h) a i inner n s s'

-- ---- a root

abbrev pub nothing : Told
nothing = record { signals = []; begins = []; ends = []; ready = [] }

-- what happens at a scope of a root, and what is given of it: signals, then begins, then ends, and the items that came
-- to be ready
pub record Happens (ts : List Template) (path : Path) (clock : ℕ) (event : Happening) (g : Graph) (s s' : ScopeState)
    (given : List Message) (items : List Path) : Type 0 where
  pub tells : Told
  pub changes : ChangesAt ts (λ h t t'. IsUsable h → Receives ts path clock event nothing tells h t t') path.parts g s
      s'
  pub messages : given ≡ tells.signals ++ tells.begins ++ tells.ends
  pub ready : items ≡ tells.ready

-- a message happens to the scope of its path, an END to the scope around it
abbrev pub Takes : List Template → ℕ → Message → Graph → ScopeState → ScopeState → List Message → List Path → Type 0
Takes ts clock (Begin path) g s s' given items = Happens ts path clock Begins g s s' given items
Takes ts clock (Signal path from to v) g s s' given items = Happens ts path clock (Signals to v) g s s' given items
Takes ts clock (End path) g s s' given items =
    (parts : List Part) (q : Part) → path.parts ≡ parts ++ q ∷ []
    → Happens ts (record { root = path.root; parts = parts }) clock (Ends q.name q.attempt) g s s' given items
