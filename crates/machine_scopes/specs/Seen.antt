-- The state of a scope as the machine sees it: the scopes inside it, by where they lie.
use Rattle.std.specs.Prelude.{◌≡◌, ℕ, Option, Some, None, option_and_then, List, [], ◌∷◌, map, length, slice_get}
use Rattle.flow_model.specs.ScopeContainers.{graph_in}
use Rattle.flow_model.specs.declared.graphs.Activity.{Activity}
use Rattle.flow_model.specs.declared.graphs.Graph.{Graph, out-Graph}
use Rattle.flow_model.specs.declared.graphs.Template.{Template}
use Rattle.flow_model.specs.declared.instances.Part.{Part}
use Rattle.machine.specs.Moves as m
use Rattle.machine.specs.Rows.{Stage, Waits, Runs, Ended, Died, Standing, Item, Inner, Row, Step}
use Rattle.navigator.specs.Reading.{place_of, attempt_place}
use Rattle.navigator.specs.Steps.{Fields, fields, Told}
use Rattle.navigator.specs.declared.scopes.ActivityState.{ActivityState, Program, Nested}
use Rattle.navigator.specs.declared.scopes.NestedStage.{NestedStage}
use Rattle.navigator.specs.declared.scopes.NestedStage.TheVariants as stages
use Rattle.navigator.specs.declared.scopes.NestedState.{NestedState, out-NestedState}
use Rattle.navigator.specs.declared.scopes.ScopeState.{ScopeState}

-- the stage of a block or process activity, as the machine names it
abbrev pub stage_of : NestedStage → Stage
stage_of stages.Waiting = Waits
stage_of stages.Running = Runs
stage_of stages.Finished = Ended
stage_of stages.Dead = Died

-- the state of an activity, as the machine sees it: the scopes of a block are only counted
abbrev pub standing_of : ActivityState → Standing
standing_of (Program p) = Item p
standing_of (Nested n) = Inner (stage_of (out-NestedState n).stage) (length (out-NestedState n).scopes.items)

-- what stands in a scope, as the machine sees it
abbrev pub row_of : Fields → Row
row_of f = record {
  begun = f.begun;
  input = f.input;
  tallies = f.tallies;
  ends = f.ends;
  standings = map standing_of f.states;
  unsettled = f.unsettled;
}

-- the scope at a place of an activity
abbrev pub scope_in : ActivityState → ℕ → Option ScopeState
scope_in (Program p) i = None
scope_in (Nested n) i = slice_get (out-NestedState n).scopes.items i

-- the scope of an attempt, by the place of its activity and its own place
abbrev pub inner_at : List ActivityState → ℕ → ℕ → Option ScopeState
inner_at states a i = option_and_then (λ state. scope_in state i) (slice_get states a)

-- the scopes of a state
abbrev pub scopes_of : ScopeState → List Step → Option Row
scopes_of s [] = Some (row_of (fields s))
scopes_of s (q ∷ p) = option_and_then (λ inner. scopes_of inner p) (inner_at (fields s).states q.0 q.1)

-- those of its parts
abbrev pub scopes_in : Fields → List Step → Option Row
scopes_in f [] = Some (row_of f)
scopes_in f (q ∷ p) = option_and_then (λ inner. scopes_of inner p) (inner_at f.states q.0 q.1)

-- what follows from an event, as the machine names it
abbrev pub told_as : Told → m.Told
told_as t = record { signals = t.signals; begins = t.begins; ends = t.ends; ready = t.ready }

-- ---- where parts lead

-- a part leads to a scope of a block or process activity
pub record Leads (ts : List Template) (q : Part) (g : Graph) (s : ScopeState)
    (P : Graph → ScopeState → Type 0) : Type 0 where
  pub place : ℕ
  pub attempt : ℕ
  pub activity : Activity
  pub graph : Graph
  pub nested : NestedState
  pub inner : ScopeState
  pub named : place_of g q.name ≡ Some place
  pub there : slice_get (out-Graph g).activities place ≡ Some activity
  pub runs : graph_in ts activity.work ≡ Some graph
  pub counted : attempt_place q.attempt ≡ Some attempt
  pub stands : slice_get (fields s).states place ≡ Some (Nested nested)
  pub has : slice_get (out-NestedState nested).scopes.items attempt ≡ Some inner
  pub behind : P graph inner

-- parts lead to a scope of which this holds
abbrev pub Along : List Template → (Graph → ScopeState → Type 0) → List Part → Graph → ScopeState → Type 0
Along ts P [] g s = P g s
Along ts P (q ∷ qs) g s = Leads ts q g s (Along ts P qs)
