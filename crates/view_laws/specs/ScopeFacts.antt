-- What a scope of the view is worth: its facts against those by the completions alone.
use Rattle.fate_laws.specs.StartedScopes.{ScopeFact, HasStarted}
use Rattle.flow_model.specs.Fates.{is_waiting, is_settled}
use Rattle.flow_model.specs.ScopeContainers.{graph_in}
use Rattle.flow_model.specs.Scopes.{Known, all_of, Start, tree_ends, tree_fate}
use Rattle.flow_model.specs.declared.graphs.Activity.{Activity}
use Rattle.flow_model.specs.declared.graphs.Container.{Container}
use Rattle.flow_model.specs.declared.graphs.Graph.{Graph, out-Graph}
use Rattle.flow_model.specs.declared.graphs.Program.{Program}
use Rattle.flow_model.specs.declared.graphs.Template.{Template}
use Rattle.flow_model.specs.declared.graphs.Work.{Program as RunsProgram}
use Rattle.std.specs.Prelude.{◌≡◌, ℕ, true, false, Some, List, slice_get}
use Rattle.view_laws.specs.Coming.{started_in}

-- what is settled in the view is so by the completions alone
abbrev pub IsSound : List Template → ScopeFact
IsSound ts depth k g i = (a : ℕ) → is_settled (tree_ends ts depth k g i a) ≡ true
    → tree_ends ts depth (all_of k) g i a ≡ tree_ends ts depth k g i a

-- the view is what the completions alone tell
abbrev pub IsExact : List Template → ScopeFact
IsExact ts depth k g i = (a : ℕ) → tree_fate ts depth k g i a ≡ tree_fate ts depth (all_of k) g i a

-- the fate of what is settled, and of a program activity that no longer waits, is that by the completions alone
pub record IsRight (ts : List Template) (depth : ℕ) (k : Known) (g : Graph) (i : Container) : Type 0 where
  pub settled : (a : ℕ) → is_settled (tree_ends ts depth k g i a) ≡ true
      → tree_fate ts depth (all_of k) g i a ≡ tree_fate ts depth k g i a
  pub program : (a : ℕ) (activity : Activity) (p : Program) → slice_get (out-Graph g).activities a ≡ Some activity
      → activity.work ≡ RunsProgram p
      → is_waiting (tree_fate ts depth k g i a) ≡ false
      → tree_fate ts depth (all_of k) g i a ≡ tree_fate ts depth k g i a

-- an attempt that has started by the view has started by the completions alone, on the same input
abbrev pub IsReached : List Template → ScopeFact
IsReached ts depth k g i =
    (a : ℕ) (activity : Activity) (c : ℕ) (h : Graph) (i' : Container) → HasStarted ts depth k g i a activity c h i'
    → HasStarted ts depth (all_of k) g i a activity c h i'

-- the attempts of blocks and subprocesses that have started are those that start, on the same inputs
pub record AreStarted (ts : List Template) (depth : ℕ) (k : Known) (g : Graph) (i : Container) : Type 0 where
  pub listed : (a : ℕ) (activity : Activity) (c : ℕ) (h : Graph) (i' : Container)
      → HasStarted ts depth k g i a activity c h i'
      → (number : ℕ) × (slice_get (started_in ts depth k g i a activity) number
      ≡ Some (record { attempt = c; input = i' }))
  pub started : (a : ℕ) (activity : Activity) (h : Graph) (number : ℕ) (s : Start)
      → slice_get (out-Graph g).activities a ≡ Some activity
      → graph_in ts activity.work ≡ Some h → slice_get (started_in ts depth k g i a activity) number ≡ Some s
      → HasStarted ts depth k g i a activity s.attempt h s.input
