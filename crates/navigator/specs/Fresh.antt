-- A scope that hasn't begun, as it is made: nothing is known of its connectors, and every activity waits.
use Rattle.std.specs.Prelude.{◌≡◌, ℕ, ◌-◌, ◌^◌, min, false, Some, None, [], length, slice_get, replicate}
use Rattle.activity_states.specs.States.{waiting}
use Rattle.dead_paths.specs.Tallies.{Counts}
use Rattle.dead_paths.specs.declared.joins.Tally.{Tally}
use Rattle.flow_model.specs.Wiring.{row_at}
use Rattle.flow_model.specs.declared.graphs.Activity.{Activity}
use Rattle.flow_model.specs.declared.graphs.Container.{Container}
use Rattle.flow_model.specs.declared.graphs.Graph.{Graph, out-Graph}
use Rattle.flow_model.specs.declared.graphs.Work.{Work, Program as RunsProgram, Block, Process}
use Rattle.flow_model.specs.declared.instances.SourceEnd.TheVariants.{Unsettled}
use Rattle.navigator.specs.declared.scopes.ActivityState.{ActivityState, Program, Nested}
use Rattle.navigator.specs.declared.scopes.NestedStage.TheVariants.{Waiting}
use Rattle.navigator.specs.declared.scopes.NestedState.{NestedState, out-NestedState}
use Rattle.navigator.specs.declared.scopes.ScopeState.{ScopeState, out-ScopeState}

-- the number of connectors that lead to an activity, by the wiring, as far as a tally counts
abbrev pub incoming_count : Graph → ℕ → ℕ
incoming_count g a = min (length (row_at (out-Graph g).wiring.incoming a)) (2 ^ 32 - 1)

-- a block or process activity that waits has no scope
pub record IsFreshNested (n : NestedState) : Type 0 where
  pub stage : (out-NestedState n).stage ≡ Waiting
  pub scopes : (out-NestedState n).scopes.items ≡ []

-- the state of an activity that waits is one for its work
abbrev pub IsFreshWork : Work → ActivityState → Type 0
IsFreshWork (RunsProgram w) (Program p) = p ≡ waiting
IsFreshWork (RunsProgram w) (Nested n) = ⊥
IsFreshWork (Block g) (Program p) = ⊥
IsFreshWork (Block g) (Nested n) = IsFreshNested n
IsFreshWork (Process t) (Program p) = ⊥
IsFreshWork (Process t) (Nested n) = IsFreshNested n

-- a scope of this graph and input that hasn't begun
pub record IsFresh (g : Graph) (input : Container) (s : ScopeState) : Type 0 where
  pub begun : (out-ScopeState s).begun ≡ false
  pub reads : (out-ScopeState s).input ≡ input
  pub tallied : length (out-ScopeState s).tallies.items ≡ length (out-Graph g).activities
  pub tallies : (a : ℕ) (t : Tally) → slice_get (out-ScopeState s).tallies.items a ≡ Some t
      → Counts t (replicate (incoming_count g a) None)
  pub ends : (out-ScopeState s).ends.items ≡ replicate (length (out-Graph g).activities) Unsettled
  pub stated : length (out-ScopeState s).states.items ≡ length (out-Graph g).activities
  pub states : (a : ℕ) (activity : Activity) (state : ActivityState)
      → slice_get (out-Graph g).activities a ≡ Some activity
      → slice_get (out-ScopeState s).states.items a ≡ Some state → IsFreshWork activity.work state
  pub unsettled : (out-ScopeState s).unsettled ≡ length (out-Graph g).activities
