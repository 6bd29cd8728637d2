-- What it means that the state of a scope shows the view of it: by what counts there and below, its input, what is
-- known of its connectors, how
-- its activities have ended and what has become of each.
use Rattle.std.specs.Prelude.{◌≡◌, ℕ, zero, suc, true, not, Option, Some, None, List, [], map, length, slice_get}
use Rattle.std.specs.Prelude.{count_by}
use Rattle.activity_states.specs.States.{State, fate_of, held, completions}
use Rattle.blocks_subprocs.specs.Ends.{ends_of}
use Rattle.dead_paths.specs.Tallies.{Counts}
use Rattle.dead_paths.specs.declared.joins.Tally.{Tally}
use Rattle.flow_model.specs.Fates.{Ends, is_open, is_settled}
use Rattle.flow_model.specs.ScopeContainers.{graph_in}
use Rattle.flow_model.specs.Scopes.{Known, at, part, Runs, Start, values_at, attempts, fate_given, scope_ends}
use Rattle.flow_model.specs.Scopes.{started_at, output}
use Rattle.flow_model.specs.declared.graphs.Activity.{Activity}
use Rattle.flow_model.specs.declared.graphs.Container.{Container}
use Rattle.flow_model.specs.declared.graphs.Graph.{Graph, out-Graph}
use Rattle.flow_model.specs.declared.graphs.Template.{Template}
use Rattle.flow_model.specs.declared.graphs.Work.{Work, Program as RunsProgram, Block, Process}
use Rattle.flow_model.specs.declared.instances.Fate.{Fate}
use Rattle.flow_model.specs.declared.instances.Fate.TheVariants as fates
use Rattle.flow_model.specs.declared.instances.Hold.TheVariants.{Nobody}
use Rattle.flow_model.specs.declared.names.Name.{Name}
use Rattle.navigator.specs.declared.scopes.ActivityState.{ActivityState, Program, Nested}
use Rattle.navigator.specs.declared.scopes.NestedStage.{NestedStage}
use Rattle.navigator.specs.declared.scopes.NestedStage.TheVariants as stages
use Rattle.navigator.specs.declared.scopes.NestedState.{NestedState, out-NestedState}
use Rattle.navigator.specs.declared.scopes.ScopeState.{ScopeState, out-ScopeState}

-- ---- one activity

-- a program activity that nobody holds has the fate of the view, and the outputs of its completions are those of its
-- attempts
pub record ShowsProgram (fate : Fate) (outs : List Container) (p : State) : Type 0 where
  pub stands : fate_of (held p Nobody) ≡ fate
  pub outputs : is_open fate ≡ true → map (λ c. c.output) (completions p) ≡ outs

-- the fate of a block or process activity at a stage, after this many attempts
abbrev pub stage_fate : NestedStage → ℕ → Fate
stage_fate stages.Waiting n = fates.Waiting
stage_fate stages.Running n = fates.Running n
stage_fate stages.Finished n = fates.Finished n
stage_fate stages.Dead n = fates.Dead

-- what has to hold of the scope of an attempt that starts
abbrev pub ShowsStart : Type 1
ShowsStart = Start → ScopeState → Type 0

-- a block or process activity has the fate of the view, and one scope for each attempt that starts
pub record ShowsNested (fate : Fate) (starts : List Start) (shows : ShowsStart) (n : NestedState) : Type 0 where
  pub stands : stage_fate (out-NestedState n).stage (length (out-NestedState n).scopes.items) ≡ fate
  pub count : length (out-NestedState n).scopes.items ≡ length starts
  pub scopes : (i : ℕ) (start : Start) (s : ScopeState) → slice_get starts i ≡ Some start
      → slice_get (out-NestedState n).scopes.items i ≡ Some s → shows start s

-- the state of an activity is one for its work, and shows its fate with these outputs or attempts
abbrev pub ShowsWork : Work → Fate → List Container → List Start → ShowsStart → ActivityState → Type 0
ShowsWork (RunsProgram w) fate outs starts shows (Program p) = ShowsProgram fate outs p
ShowsWork (RunsProgram w) fate outs starts shows (Nested n) = ⊥
ShowsWork (Block g) fate outs starts shows (Program p) = ⊥
ShowsWork (Block g) fate outs starts shows (Nested n) = ShowsNested fate starts shows n
ShowsWork (Process t) fate outs starts shows (Program p) = ⊥
ShowsWork (Process t) fate outs starts shows (Nested n) = ShowsNested fate starts shows n

-- ---- one scope, where it is known what the scopes below it have to show

-- what has to hold of a scope by what counts there, its graph and its input
abbrev pub ShowsScope : Type 1
ShowsScope = Known → Graph → Container → ScopeState → Type 0

-- an attempt runs the graph of its activity
abbrev pub shows_attempt : ShowsScope → Known → Name → Option Graph → ShowsStart
shows_attempt below k name None start s = ⊥
shows_attempt below k name (Some h) start s = below (at (part name start.attempt) k) h start.input s

-- the state of the activity at a place, where the activities have ended so
abbrev pub ShowsActivity : List Template → Known → Runs → ShowsScope → Graph → Container → Ends → ℕ → Activity
    → ActivityState → Type 0
ShowsActivity ts k runs below g input e a activity state =
    ShowsWork activity.work (fate_given ts k runs g input e a) (attempts ts k runs g input e a)
    (started_at ts k runs g input e a activity)
    (shows_attempt below k activity.name (graph_in ts activity.work)) state

-- the state of a scope whose activities have ended so
pub record ShowsEnds (ts : List Template) (k : Known) (runs : Runs) (below : ShowsScope) (g : Graph) (input : Container)
    (e : Ends) (s : ScopeState) : Type 0 where
  pub begun : (out-ScopeState s).begun ≡ k.begun []
  pub reads : (out-ScopeState s).input ≡ input
  pub tallied : length (out-ScopeState s).tallies.items ≡ length (out-Graph g).activities
  pub tallies : (a : ℕ) (t : Tally) → slice_get (out-ScopeState s).tallies.items a ≡ Some t
      → Counts t (values_at k (out-Graph g).controls e a)
  pub ended : length (out-ScopeState s).ends.items ≡ length (out-Graph g).activities
  pub ends : (a : ℕ) → ends_of (out-ScopeState s).ends.items a ≡ e a
  pub stated : length (out-ScopeState s).states.items ≡ length (out-Graph g).activities
  pub states : (a : ℕ) (activity : Activity) (state : ActivityState)
      → slice_get (out-Graph g).activities a ≡ Some activity
      → slice_get (out-ScopeState s).states.items a ≡ Some state
      → ShowsActivity ts k runs below g input e a activity state
  pub unsettled : (out-ScopeState s).unsettled ≡ count_by (λ x. not (is_settled x)) (out-ScopeState s).ends.items

-- ---- all scopes

-- the state of a scope shows its view, with fewer levels than this at and below it
abbrev pub ShowsWithin : List Template → ℕ → Known → Graph → Container → ScopeState → Type 0
ShowsWithin ts zero k g input s = ⊥
ShowsWithin ts (suc depth) k g input s =
    ShowsEnds ts k (output ts depth) (ShowsWithin ts depth) g input (scope_ends ts k (output ts depth) g input) s

-- the state of a scope shows its view, with at most this many levels below it
abbrev pub Shows : List Template → ℕ → Known → Graph → Container → ScopeState → Type 0
Shows ts depth k g input s = ShowsWithin ts (suc depth) k g input s
