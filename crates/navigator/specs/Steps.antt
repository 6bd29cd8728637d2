-- What each step of an event does to the scope that receives it, and which messages and items follow.
use Rattle.std.specs.Prelude.{◌≡◌, ℕ, zero, suc, ◌+◌, ◌-◌, ◌==◌, Bool, true, false, not, ◌&&◌, if◌then◌else◌, Option}
use Rattle.std.specs.Prelude.{Some, None, List, [], ◌∷◌, ◌++◌, length, slice_get, slice_set}
use Rattle.activity_states.specs.States.{State, fate_of, made_ready, killed, completed}
use Rattle.activity_states.specs.declared.states.Completed.{Completed}
use Rattle.blocks_subprocs.specs.Ends.{ends_of}
use Rattle.dead_paths.specs.Signals.{signals}
use Rattle.dead_paths.specs.Tallies.{Counts}
use Rattle.dead_paths.specs.declared.joins.Tally.{Tally}
use Rattle.flow_model.specs.Conditions.{holds}
use Rattle.flow_model.specs.Containers.{fresh, with_return_code}
use Rattle.flow_model.specs.Fates.{joined}
use Rattle.flow_model.specs.Rows.{below}
use Rattle.flow_model.specs.ScopeContainers.{graph_in, base_of, fed, looped}
use Rattle.flow_model.specs.Scopes.{part}
use Rattle.flow_model.specs.declared.graphs.Activity.{Activity}
use Rattle.flow_model.specs.declared.graphs.Container.{Container}
use Rattle.flow_model.specs.declared.graphs.Graph.{Graph, out-Graph}
use Rattle.flow_model.specs.declared.graphs.MapEnd.TheVariants.{Border}
use Rattle.flow_model.specs.declared.graphs.Template.{Template}
use Rattle.flow_model.specs.declared.instances.Fate.{Fate}
use Rattle.flow_model.specs.declared.instances.Fate.TheVariants as fates
use Rattle.flow_model.specs.declared.instances.Message.{Message}
use Rattle.flow_model.specs.declared.instances.Message.TheVariants.{Begin, End}
use Rattle.flow_model.specs.declared.instances.Part.{Part}
use Rattle.flow_model.specs.declared.instances.Path.{Path}
use Rattle.flow_model.specs.declared.instances.SourceEnd.{SourceEnd}
use Rattle.flow_model.specs.declared.instances.SourceEnd.TheVariants as end
use Rattle.flow_model.specs.declared.names.Name.{Name}
use Rattle.navigator.specs.Fresh.{IsFresh}
use Rattle.navigator.specs.declared.changes.Effects.{Effects}
use Rattle.navigator.specs.declared.scopes.ActivityState.{ActivityState, Program, Nested}
use Rattle.navigator.specs.declared.scopes.NestedStage.{NestedStage}
use Rattle.navigator.specs.declared.scopes.NestedStage.TheVariants as stages
use Rattle.navigator.specs.declared.scopes.NestedState.{NestedState, out-NestedState, roll-NestedState}
use Rattle.navigator.specs.declared.scopes.ScopeState.{ScopeState, out-ScopeState}

-- ---- what a scope is made of, and what follows from an event

pub record Fields : Type 0 where
  pub begun : Bool
  pub input : Container
  pub tallies : List Tally
  pub ends : List SourceEnd
  pub states : List ActivityState
  pub unsettled : ℕ

abbrev pub fields : ScopeState → Fields
fields s = record {
  begun = (out-ScopeState s).begun;
  input = (out-ScopeState s).input;
  tallies = (out-ScopeState s).tallies.items;
  ends = (out-ScopeState s).ends.items;
  states = (out-ScopeState s).states.items;
  unsettled = (out-ScopeState s).unsettled;
}

-- the messages that follow, by their kinds, and the items that became ready
pub record Told : Type 0 where
  pub signals : List Message
  pub begins : List Message
  pub ends : List Message
  pub ready : List Path

abbrev pub told : Effects → Told
told e = record { signals = e.signals.items; begins = e.begins.items; ends = e.ends.items; ready = e.ready.items }

-- another state of the activity at a place
abbrev pub with_state : ℕ → ActivityState → Fields → Fields
with_state a state f = record f { states = slice_set f.states a state }

-- the state at a place is changed, where there is one
abbrev pub changed_at : (ActivityState → ActivityState) → ℕ → Option ActivityState → Fields → Fields
changed_at change a None f = f
changed_at change a (Some state) f = with_state a (change state) f

-- ---- an activity is settled

-- it has ended so, and one activity fewer is left
abbrev pub settled : ℕ → SourceEnd → Fields → Fields
settled a e f = record f { ends = slice_set f.ends a e; unsettled = f.unsettled - 1 }

abbrev pub is_root : List Part → Bool
is_root [] = true
is_root (q ∷ qs) = false

-- the END of a scope of which this many activities are left; the root has none
abbrev pub end_after : Path → ℕ → List Message
end_after path left = if (left == 0) && not (is_root path.parts) then End path ∷ [] else []

-- its signals go out, and the scope's END where it was the last
abbrev pub tell_settled : Graph → Path → ℕ → SourceEnd → ℕ → Told → Told
tell_settled g path a e left t = record t {
  signals = t.signals ++ signals g path a e;
  ends = t.ends
      ++ end_after path left;
}

-- ---- the join of an activity is false

abbrev pub at_stage : NestedStage → NestedState → NestedState
at_stage stage n = roll-NestedState (record (out-NestedState n) { stage = stage })

abbrev pub dead_state : ActivityState → ActivityState
dead_state (Program p) = Program (killed p)
dead_state (Nested n) = Nested (at_stage stages.Dead n)

-- it is dead, and settled
abbrev pub dies : ℕ → Fields → Fields
dies a f = settled a end.Dead (changed_at dead_state a (slice_get f.states a) f)

-- ---- an attempt is made

abbrev pub ready_state : ℕ → ActivityState → ActivityState
ready_state clock (Program p) = Program (made_ready p clock)
ready_state clock (Nested n) = Nested n

-- one more scope of a block or process activity, which is running
pub record Grows (s : ScopeState) (n n' : NestedState) : Type 0 where
  pub scopes : (out-NestedState n').scopes.items ≡ (out-NestedState n).scopes.items ++ s ∷ []
  pub stage : (out-NestedState n').stage ≡ stages.Running

abbrev pub GrowsState : ScopeState → ActivityState → ActivityState → Type 0
GrowsState s (Program p) state = state ≡ Program p
GrowsState s (Nested n) (Program p) = ⊥
GrowsState s (Nested n) (Nested n') = Grows s n n'

-- the number of the next scope
abbrev pub next_of : ActivityState → ℕ
next_of (Program p) = 0
next_of (Nested n) = length (out-NestedState n).scopes.items + 1

-- the next scope of the activity at a place has this graph and input, and its BEGIN goes out
pub record BeginsNext (h : Graph) (input : Container) (path : Path) (a : ℕ) (activity : Activity) (was : ActivityState)
    (old new : Fields) (before after : Told) : Type 0 where
  pub next : ScopeState
  pub fresh : IsFresh h input next
  pub state : ActivityState
  pub grows : GrowsState next was state
  pub scope : new ≡ with_state a state old
  pub tells : after ≡ record before {
    begins = before.begins
        ++ Begin (below path (part activity.name (next_of was))) ∷ [];
  }

-- an activity that runs no graph has no scope
abbrev pub Begins : Option Graph → Container → Path → ℕ → Activity → ActivityState → Fields → Fields → Told → Told
    → Type 0
Begins None input path a activity was old new before after = (new ≡ old) × (after ≡ before)
Begins (Some h) input path a activity was old new before after =
    BeginsNext h input path a activity was old new before after

-- the first attempt of the activity at a place: an item that is ready, or a scope whose input is the base input
abbrev pub Opens : List Template → Graph → Path → ℕ → ℕ → Activity → Option ActivityState → Fields → Fields → Told
    → Told → Type 0
Opens ts g path clock a activity None old new before after = (new ≡ old) × (after ≡ before)
Opens ts g path clock a activity (Some (Program p)) old new before after =
    (new ≡ with_state a (Program (made_ready p clock)) old)
    × (after ≡ record before { ready = before.ready ++ below path (part activity.name 1) ∷ [] })
Opens ts g path clock a activity (Some (Nested n)) old new before after =
    Begins (graph_in ts activity.work) (base_of g activity a old.input (ends_of old.ends)) path a activity
    (Nested n) old new before after

-- ---- the join of an activity is known, or not yet

abbrev pub Decides : List Template → Graph → Path → ℕ → ℕ → Activity → Option Bool → Fields → Fields → Told → Told
    → Type 0
Decides ts g path clock a activity None old new before after = (new ≡ old) × (after ≡ before)
Decides ts g path clock a activity (Some true) old new before after = Opens ts g path clock a activity
    (slice_get old.states a) old new before after
Decides ts g path clock a activity (Some false) old new before after = (new ≡ dies a old)
    × (after ≡ tell_settled g path a end.Dead (old.unsettled - 1) before)

-- ---- a signal is taken

-- the tally of an activity counts these values
pub record TakesValue (a : ℕ) (vs : List (Option Bool)) (old new : Fields) : Type 0 where
  pub tally : Tally
  pub counts : Counts tally vs
  pub scope : new ≡ record old { tallies = slice_set old.tallies a tally }

-- the values are these, and the activity is decided where they say so
pub record TakesSignal (ts : List Template) (g : Graph) (path : Path) (clock a : ℕ) (activity : Activity)
    (vs : List (Option Bool)) (old new : Fields) (before after : Told) : Type 0 where
  pub middle : Fields
  pub takes : TakesValue a vs old middle
  pub decides : Decides ts g path clock a activity (joined activity.join vs) middle new before after

-- ---- an attempt of a program activity is completed

-- the item that is ready next
abbrev pub ready_item : Path → Name → Fate → List Path
ready_item path name fates.Waiting = []
ready_item path name (fates.Ready j) = below path (part name j) ∷ []
ready_item path name (fates.Running j) = []
ready_item path name (fates.Finished j) = []
ready_item path name fates.Dead = []

abbrev pub completed_state : Completed → Bool → ℕ → ActivityState → ActivityState
completed_state c last clock (Program p) = Program (completed p c last clock)
completed_state c last clock (Nested n) = Nested n

-- where the completion is the last one, the activity is settled, else the next item is ready
abbrev pub CompletesBy : Bool → Graph → Path → ℕ → ℕ → Activity → State → Completed → Fields → Fields → Told → Told
    → Type 0
CompletesBy true g path clock a activity p c old new before after =
    (new ≡ settled a (end.Finished c.output) (with_state a (Program (completed p c true clock)) old))
    × (after ≡ tell_settled g path a (end.Finished c.output) (old.unsettled - 1) before)
CompletesBy false g path clock a activity p c old new before after =
    (new ≡ with_state a (Program (completed p c false clock)) old)
    × (after ≡ record before {
      ready = before.ready
          ++ ready_item path activity.name (fate_of (completed p c false clock));
    })

-- by the exit condition
abbrev pub Completes : Graph → Path → ℕ → ℕ → Activity → State → Completed → Fields → Fields → Told → Told → Type 0
Completes g path clock a activity p c old new before after = CompletesBy
    (holds activity.exit c.output) g path clock a activity p c old new before after

-- ---- the scope of an attempt has ended

-- the output of a scope, with the return code before it
abbrev pub given_by : Graph → ScopeState → Container
given_by h s = with_return_code (fed (out-Graph h).lines Border (out-ScopeState s).input
    (ends_of (out-ScopeState s).ends.items) (fresh (out-Graph h).output))

abbrev pub finished_state : ActivityState → ActivityState
finished_state (Program p) = Program p
finished_state (Nested n) = Nested (at_stage stages.Finished n)

-- it is finished, and settled
abbrev pub finishes : ℕ → Container → Fields → Fields
finishes a out f = settled a (end.Finished out) (changed_at finished_state a (slice_get f.states a) f)

-- where the attempt is the last one, the activity is settled, else the next scope reads the base input with the LOOP
-- maps from this output
abbrev pub EndsBy : Bool → Graph → Graph → Path → ℕ → Activity → ActivityState → Container → Fields → Fields → Told
    → Told → Type 0
EndsBy true g h path a activity was out old new before after =
    (new ≡ finishes a out old) × (after ≡ tell_settled g path a (end.Finished out) (old.unsettled - 1) before)
EndsBy false g h path a activity was out old new before after =
    BeginsNext h (looped (out-Graph g).loops a out (base_of g activity a old.input (ends_of old.ends))) path a activity
    was old new before after

-- by the exit condition
abbrev pub EndsAttempt : Graph → Graph → Path → ℕ → Activity → ActivityState → Container → Fields → Fields → Told → Told
    → Type 0
EndsAttempt g h path a activity was out old new before after = EndsBy
    (holds activity.exit out) g h path a activity was out old new before after

-- ---- a scope begins

-- an activity is decided after earlier ones
pub record DecidesNext (ts : List Template) (g : Graph) (path : Path) (clock : ℕ) (values : ℕ → List (Option Bool))
    (earlier : Fields → Told → Type 0) (a : ℕ) (new : Fields) (after : Told) : Type 0 where
  pub middle : Fields
  pub so_far : Told
  pub before : earlier middle so_far
  pub decides : (activity : Activity) → slice_get (out-Graph g).activities a ≡ Some activity
      → Decides ts g path clock a activity (joined activity.join (values a)) middle new so_far after

-- the first n activities are decided in their order, each by the values of the connectors that lead there
abbrev pub DecidesFirst : List Template → Graph → Path → ℕ → (ℕ → List (Option Bool)) → ℕ → Fields → Fields → Told
    → Told → Type 0
DecidesFirst ts g path clock values zero old new before after = (new ≡ old) × (after ≡ before)
DecidesFirst ts g path clock values (suc n) old new before after =
    DecidesNext ts g path clock values (λ middle so_far. DecidesFirst ts g path clock values n old middle before so_far)
    n new after

-- each activity has a tally, which counts these values
pub record AreTallied (g : Graph) (values : ℕ → List (Option Bool)) (tallies : List Tally) : Type 0 where
  pub long : length tallies ≡ length (out-Graph g).activities
  pub counts : (a : ℕ) (t : Tally) → slice_get tallies a ≡ Some t → Counts t (values a)

-- all activities are decided; those to which no connector leads have a join that is known
abbrev pub BeginsAll : List Template → Graph → Path → ℕ → (ℕ → List (Option Bool)) → Fields → Fields → Told → Told
    → Type 0
BeginsAll ts g path clock values old new before after =
    DecidesFirst ts g path clock values (length (out-Graph g).activities) (record old { begun = true }) new before after
