-- The plain equations of the fates: what a connector is worth, what a join asks, and what happens to an activity, by
-- how the others have ended.
use Rattle.std.specs.Prelude.{◌≡◌, ◌≢◌, ◌↔◌, ◌⊎◌, ℕ, ◌+◌, ◌≤◌, ◌<◌, ◌==◌, Bool, true, false, Option, Some, None, List}
use Rattle.std.specs.Prelude.{[], map, length, slice_get, count_by, IsTrue}
use Rattle.std.specs.List.{All, Contains, filter, last_or}
use Rattle.flow_model.specs.declared.graphs.Activity.{Activity}
use Rattle.flow_model.specs.declared.graphs.Container.{Container}
use Rattle.flow_model.specs.declared.graphs.Control.{Control}
use Rattle.flow_model.specs.declared.graphs.Expr.{Expr}
use Rattle.flow_model.specs.declared.graphs.Graph.{Graph, out-Graph}
use Rattle.flow_model.specs.declared.graphs.Join.{Join}
use Rattle.flow_model.specs.declared.graphs.Join.TheVariants as join
use Rattle.flow_model.specs.declared.graphs.MapEnd.TheVariants.{Activity as At}
use Rattle.flow_model.specs.declared.graphs.Program.{Program}
use Rattle.flow_model.specs.declared.graphs.Template.{Template}
use Rattle.flow_model.specs.declared.graphs.When.TheVariants.{Always, Cond, Otherwise}
use Rattle.flow_model.specs.declared.graphs.Work.{Work, Program as RunsProgram}
use Rattle.flow_model.specs.declared.instances.Fate.{Fate}
use Rattle.flow_model.specs.declared.instances.Fate.TheVariants.{Waiting, Ready, Running, Finished, Dead}
use Rattle.flow_model.specs.declared.instances.Part.{Part}
use Rattle.flow_model.specs.declared.instances.SourceEnd.{SourceEnd}
use Rattle.flow_model.specs.declared.instances.SourceEnd.TheVariants as end
use Rattle.flow_model.specs.Conditions.{holds, truth}
use Rattle.flow_model.specs.Fates.{Ends, connector_value, is_settled, is_yes, joined}
use Rattle.flow_model.specs.ScopeContainers.{base_of}
use Rattle.flow_model.specs.Scopes.{Known, all_of, output, tree_ends, tree_fate, tries_on, step}
use Rattle.fate_laws.specs.Orders.{IsFlow}
use Rattle.fate_laws.specs.StartedScopes.{ScopeFact, AtScope}
use Rattle.fate_laws.specs.WellFormed.{Well}

-- ---- connectors

-- the value of a connector
abbrev pub value_in : List Control → Ends → Control → Option Bool
value_in controls e c = connector_value controls c (e c.from)

-- a connector with a condition of its own
abbrev pub IsWhen : Control → Type 0
IsWhen c = (condition : Expr) × (c.when ≡ Cond condition)

abbrev pub IsFinished : SourceEnd → Type 0
IsFinished s = (out : Container) × (s ≡ end.Finished out)

pub record AreValues (controls : List Control) (e : Ends) : Type 0 where
  -- unknown exactly while the source is not settled
  pub unknown : (c : Control) → (value_in controls e c ≡ None) ↔ (is_settled (e c.from) ≡ false)
  -- false where the source is dead
  pub dead : (c : Control) → e c.from ≡ end.Dead → value_in controls e c ≡ Some false
  -- with no condition true where the source is finished
  pub always : (c : Control) (out : Container) → e c.from ≡ end.Finished out → c.when ≡ Always
      → value_in controls e c ≡ Some true
  -- else its condition on the final output of the source
  pub condition : (c : Control) (out : Container) (x : Expr) → e c.from ≡ end.Finished out → c.when ≡ Cond x
      → value_in controls e c ≡ Some (truth x out)
  -- OTHERWISE is true exactly where the source is finished and no connector of it that has a condition is true
  pub otherwise : (c : Control) → c.when ≡ Otherwise
      → (value_in controls e c ≡ Some true) ↔ (IsFinished (e c.from)
      × All (λ d. d.from ≡ c.from → IsWhen d → value_in controls e d ≢ Some true) controls)

abbrev pub ConnectorValues : Type 0
ConnectorValues = (controls : List Control) (e : Ends) → AreValues controls e

-- ---- joins

pub record AreJoins (vs : List (Option Bool)) : Type 0 where
  -- unknown exactly while a value is unknown
  pub unknown : (rule : Join) → (joined rule vs ≡ None) ↔ Contains vs None
  pub all : (joined join.All vs ≡ Some true) ↔ All (λ v. v ≡ Some true) vs
  -- with no connector true
  pub at_least_one : (joined join.AtLeastOne vs ≡ Some true)
      ↔ (All (λ v. v ≢ None) vs × ((vs ≡ []) ⊎ Contains vs (Some true)))
  pub at_least : (n : ℕ) → (joined (join.AtLeast n) vs ≡ Some true)
      ↔ (All (λ v. v ≢ None) vs × ((vs ≡ []) ⊎ (n ≤ count_by is_yes vs)))

abbrev pub Joins : Type 0
Joins = (vs : List (Option Bool)) → AreJoins vs

-- ---- fates

-- the values of the connectors that lead to an activity
abbrev pub values_into : List Control → Ends → ℕ → List (Option Bool)
values_into controls e a = map (value_in controls e) (filter (λ c. c.to == a) controls)

abbrev pub join_of : Graph → Ends → ℕ → Activity → Option Bool
join_of g e a activity = joined activity.join (values_into (out-Graph g).controls e a)

-- the outputs of the attempts of an activity, the first of which has the input that the data lines bring
abbrev pub outputs_of : List Template → ℕ → Known → Graph → Container → Ends → ℕ → Activity → List Container
outputs_of ts depth k g input e a activity = tries_on ts k (output ts depth) g a activity (base_of g activity a input e)

abbrev pub IsProgram : Work → Type 0
IsProgram work = (program : Program) × (work ≡ RunsProgram program)

-- no attempt yet, or the exit condition is false on the last output
abbrev pub GoesOn : Option Expr → List Container → Type 0
GoesOn exit outs = (out : Container) → last_or None outs ≡ Some out → holds exit out ≡ false

-- the fate of an activity by its join and the outputs of its attempts
pub record IsFate (activity : Activity) (join : Option Bool) (outs : List Container) (fate : Fate) : Type 0 where
  -- it waits while the join is unknown
  pub waiting : (fate ≡ Waiting) ↔ (join ≡ None)
  -- it is dead where the join is false
  pub dead : (fate ≡ Dead) ↔ (join ≡ Some false)
  -- where the join is true, it is finished once the exit condition is true on the last output
  pub finished : (n : ℕ) → (fate ≡ Finished n) ↔ ((join ≡ Some true) × (length outs ≡ n) × (out : Container)
      × (last_or None outs ≡ Some out) × IsTrue (holds activity.exit out))
  -- until then the next attempt of a program is ready, and that of a block or subprocess runs
  pub ready : (n : ℕ) → (fate ≡ Ready n) ↔ ((join ≡ Some true) × (length outs + 1 ≡ n) × GoesOn activity.exit outs
      × IsProgram activity.work)
  pub running : (n : ℕ) → (fate ≡ Running n) ↔ ((join ≡ Some true) × (length outs + 1 ≡ n) × GoesOn activity.exit outs
      × (IsProgram activity.work → ⊥))

-- how an activity has ended by its fate, and its final output
pub record IsEnd (fate : Fate) (outs : List Container) (s : SourceEnd) : Type 0 where
  pub dead : (s ≡ end.Dead) ↔ (fate ≡ Dead)
  pub finished : (out : Container) → (s ≡ end.Finished out)
      ↔ ((n : ℕ) × (fate ≡ Finished n) × (last_or None outs ≡ Some out))

-- fates and ends that satisfy the equations in a scope
pub record Solves (ts : List Template) (depth : ℕ) (k : Known) (g : Graph) (input : Container) (fates : ℕ → Fate)
    (e : Ends) : Type 0 where
  pub fate : (a : ℕ) (activity : Activity) → slice_get (out-Graph g).activities a ≡ Some activity
      → IsFate activity (join_of g e a activity) (outputs_of ts depth k g input e a activity) (fates a)
  pub end : (a : ℕ) (activity : Activity) → slice_get (out-Graph g).activities a ≡ Some activity
      → IsEnd (fates a) (outputs_of ts depth k g input e a activity) (e a)

-- the fates by the completions alone satisfy the equations
abbrev pub FatesSolve : Type 0
FatesSolve =
    (ts : List Template) (depth : ℕ) (k : Known) (g : Graph) (input : Container) → Well ts depth g
    → Solves ts depth (all_of k) g input (tree_fate ts depth (all_of k) g input) (tree_ends ts depth (all_of k) g input)

-- in a scope
abbrev pub IsSolved : List Template → ScopeFact
IsSolved ts depth k g input = Solves ts depth k g input (tree_fate ts depth k g input) (tree_ends ts depth k g input)

-- so they do in every scope that has started, at every depth
abbrev pub FatesSolveBelow : Type 0
FatesSolveBelow =
    (ts : List Template) (depth : ℕ) (k : Known) (g : Graph) (input : Container) (path : List Part) → Well ts depth g
    → AtScope (IsSolved ts) ts depth (all_of k) g input path

-- and no others do
pub record AreFates (ts : List Template) (depth : ℕ) (k : Known) (g : Graph) (input : Container) (fates : ℕ → Fate)
    (e : Ends) : Type 0 where
  pub fate : (a : ℕ) → a < length (out-Graph g).activities → fates a ≡ tree_fate ts depth k g input a
  pub end : (a : ℕ) → a < length (out-Graph g).activities → e a ≡ tree_ends ts depth k g input a

abbrev pub OnlyFatesSolve : Type 0
OnlyFatesSolve =
    (ts : List Template) (depth : ℕ) (k : Known) (g : Graph) (input : Container) (fates : ℕ → Fate) (e : Ends)
    → Well ts depth g
    → Solves ts depth (all_of k) g input fates e → AreFates ts depth (all_of k) g input fates e

-- wherever the join is known, all activities that feed the activity by data lines are settled
abbrev pub FedWhereKnown : Type 0
FedWhereKnown =
    (ts : List Template) (depth : ℕ) (k : Known) (g : Graph) (input : Container) (a : ℕ) (activity : Activity)
    → Well ts depth g
    → slice_get (out-Graph g).activities a ≡ Some activity
    → join_of g (tree_ends ts depth (all_of k) g input) a activity ≢ None
    → All (λ line. line.to ≡ At a → (b : ℕ) → line.from ≡ At b
    → IsTrue (is_settled (tree_ends ts depth (all_of k) g input b))) (out-Graph g).lines

-- ---- the same of whatever is known of messages

-- another step changes nothing
abbrev pub StepKeepsEnds : Type 0
StepKeepsEnds =
    (ts : List Template) (depth : ℕ) (k : Known) (g : Graph) (input : Container) (order : List ℕ) → IsFlow g order
    → (a : ℕ)
    → tree_ends ts depth k g input a ≡ step ts k (output ts depth) g input (tree_ends ts depth k g input) a

-- and only these ends are kept by a step
abbrev pub StepKeepsOnlyEnds : Type 0
StepKeepsOnlyEnds =
    (ts : List Template) (depth : ℕ) (k : Known) (g : Graph) (input : Container) (order : List ℕ) (e : Ends)
    → IsFlow g order
    → ((a : ℕ) → a < length (out-Graph g).activities → e a ≡ step ts k (output ts depth) g input e a)
    → (a : ℕ) → a < length (out-Graph g).activities → e a ≡ tree_ends ts depth k g input a
