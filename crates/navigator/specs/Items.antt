-- The scope one step down, and the item of a path.
use Rattle.std.specs.Prelude.{ℕ, ◌-◌, ◌==◌, nat_le, ◌&&◌, if◌then◌else◌, Option, Some, None, List, [], ◌∷◌, slice_get}
use Rattle.std.specs.Prelude.{option_and_then}
use Rattle.activity_states.specs.States.{State, fate_of, output_of, performer_of}
use Rattle.blocks_subprocs.specs.Ends.{ends_of}
use Rattle.flow_model.specs.ScopeContainers.{graph_in, base_of, looped}
use Rattle.flow_model.specs.declared.graphs.Activity.{Activity}
use Rattle.flow_model.specs.declared.graphs.Container.{Container}
use Rattle.flow_model.specs.declared.graphs.Graph.{Graph, out-Graph}
use Rattle.flow_model.specs.declared.graphs.Template.{Template}
use Rattle.flow_model.specs.declared.instances.Fate.{Fate}
use Rattle.flow_model.specs.declared.instances.Fate.TheVariants as fates
use Rattle.flow_model.specs.declared.instances.Part.{Part}
use Rattle.flow_model.specs.declared.instances.Phase.{Phase}
use Rattle.flow_model.specs.declared.instances.Phase.TheVariants.{Ready, Running, Ended}
use Rattle.flow_model.specs.declared.instances.SourceEnd.{SourceEnd}
use Rattle.flow_model.specs.declared.instances.SourceEnd.TheVariants as end
use Rattle.navigator.specs.Reading.{place_of, inner_of}
use Rattle.navigator.specs.declared.scopes.ActivityState.{ActivityState, Program, Nested}
use Rattle.navigator.specs.declared.scopes.ScopeState.{ScopeState, out-ScopeState}

-- ---- scopes

-- a scope with its graph
pub record Stand : Type 0 where
  pub graph : Graph
  pub scope : ScopeState

abbrev pub stand : Graph → ScopeState → Stand
stand g s = record { graph = g; scope = s }

abbrev pub both : Option Graph → Option ScopeState → Option Stand
both None s = None
both (Some g) None = None
both (Some g) (Some s) = Some (stand g s)

-- the scope of an attempt of the activity at a place, if the activity runs a graph
abbrev pub into_place : List Template → Stand → ℕ → ℕ → Option Stand
into_place ts at j a = option_and_then (λ activity. both (graph_in ts activity.work) (inner_of at.scope a j))
    (slice_get (out-Graph at.graph).activities a)

-- the scope one step down
abbrev pub into : List Template → Stand → Part → Option Stand
into ts at q = option_and_then (into_place ts at q.attempt) (place_of at.graph q.name)

-- ---- items

-- an item of a scope: the place of its activity, the activity, its state and the attempt
pub record Entry : Type 0 where
  pub graph : Graph
  pub scope : ScopeState
  pub number : ℕ
  pub activity : Activity
  pub state : State
  pub attempt : ℕ

-- the attempts that have been made
abbrev pub attempts_in : Fate → ℕ
attempts_in fates.Waiting = 0
attempts_in (fates.Ready j) = j
attempts_in (fates.Running j) = j
attempts_in (fates.Finished j) = j
attempts_in fates.Dead = 0

abbrev pub entry_of : Graph → ScopeState → ℕ → Activity → State → ℕ → Entry
entry_of g s a activity state j = record {
  graph = g;
  scope = s;
  number = a;
  activity = activity;
  state =
      state;
  attempt = j;
}

-- an attempt that has been made of a program activity
abbrev pub entry_of_state : Stand → ℕ → ℕ → Activity → ActivityState → Option Entry
entry_of_state at j a activity (Program p) = if nat_le 1 j
    && nat_le j (attempts_in (fate_of p)) then Some (entry_of at.graph at.scope a activity p j) else None
entry_of_state at j a activity (Nested n) = None

abbrev pub entry : Stand → ℕ → ℕ → Option Activity → Option ActivityState → Option Entry
entry at j a None state = None
entry at j a (Some activity) None = None
entry at j a (Some activity) (Some state) = entry_of_state at j a activity state

-- the item of a part in a scope, which has to have begun
abbrev pub entry_here : Part → Stand → Option Entry
entry_here q at =
    if (out-ScopeState at.scope).begun
    then option_and_then (λ a. entry at q.attempt a (slice_get (out-Graph at.graph).activities a)
    (slice_get (out-ScopeState at.scope).states.items a)) (place_of at.graph q.name)
    else None

-- the item of a path, whose last part names it in the scope to which the others lead
abbrev pub entry_at : List Template → List Part → Stand → Option Entry
entry_at ts [] at = None
entry_at ts (q ∷ []) at = entry_here q at
entry_at ts (q ∷ (r ∷ qs)) at = option_and_then (entry_at ts (r ∷ qs)) (into ts at q)

-- ---- what is shown of an item

-- an attempt is ready or running only while it is the open one
abbrev pub phase_of : Fate → ℕ → Phase
phase_of fates.Waiting n = Ended
phase_of (fates.Ready j) n = if j == n then Ready else Ended
phase_of (fates.Running j) n = if j == n then Running else Ended
phase_of (fates.Finished j) n = Ended
phase_of fates.Dead n = Ended

abbrev pub base_at : Graph → ScopeState → ℕ → Option Activity → Container
base_at g s a None = record { values = [] }
base_at g s a (Some activity) = base_of g activity a (out-ScopeState s).input (ends_of (out-ScopeState s).ends.items)

abbrev pub looped_from : Graph → ℕ → Container → Option Container → Container
looped_from g a base None = base
looped_from g a base (Some last) = looped (out-Graph g).loops a last base

-- the input of an attempt: the base input, with the LOOP maps from the output of the attempt before it
abbrev pub item_input : Graph → ScopeState → ℕ → State → ℕ → Container
item_input g s a state j = looped_from g a (base_at g s a (slice_get (out-Graph g).activities a))
    (output_of state (j - 1))

-- ---- who did it

-- the person whose completion was the last one of a program activity
abbrev pub performer_in : Option ActivityState → Option (List ℕ)
performer_in None = None
performer_in (Some (Program p)) = performer_of p
performer_in (Some (Nested n)) = None

-- so it is where the activity is finished
abbrev pub performer_if : Option SourceEnd → Option ActivityState → Option (List ℕ)
performer_if None state = None
performer_if (Some end.Unsettled) state = None
performer_if (Some end.Dead) state = None
performer_if (Some (end.Finished output)) state = performer_in state

-- the person whose completion gave the final output of the activity at a place of a scope; none where it was an agent's
-- or
-- an administrator's, or the activity isn't finished
abbrev pub performer_at : ScopeState → ℕ → Option (List ℕ)
performer_at s a = performer_if (slice_get (out-ScopeState s).ends.items a)
    (slice_get (out-ScopeState s).states.items a)
