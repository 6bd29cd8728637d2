-- What the fates of a live root follow from, as the live transactions say it: its template, its input and its accepted
-- completions.
use Rattle.std.specs.Prelude.{◌≡◌, ℕ, if◌then◌else◌, Option, Some, None, option_map, option_and_then, List, [], ◌∷◌}
use Rattle.std.specs.List.{filter_map}
use Rattle.containers.specs.Settings.{filled}
use Rattle.flow_model.specs.Containers.{fresh}
use Rattle.flow_model.specs.ScopeContainers.{graph_in}
use Rattle.flow_model.specs.declared.graphs.Activity.{Activity}
use Rattle.flow_model.specs.declared.graphs.Graph.{Graph, out-Graph}
use Rattle.flow_model.specs.declared.graphs.Template.{Template}
use Rattle.flow_model.specs.declared.instances.Fact.{Fact}
use Rattle.flow_model.specs.declared.instances.Part.{Part}
use Rattle.flow_model.specs.declared.instances.Path.{Path}
use Rattle.flow_model.specs.declared.transactions.Numbered.{Numbered}
use Rattle.flow_model.specs.declared.transactions.Setting.{Setting}
use Rattle.flow_model.specs.declared.transactions.Transaction.{Transaction}
use Rattle.flow_model.specs.declared.transactions.Transaction.TheVariants.{Import, Start, Turn, Claim, Release}
use Rattle.flow_model.specs.declared.transactions.Transaction.TheVariants.{Transfer, Take, Done, Force, Restart}
use Rattle.flow_model.specs.declared.transactions.Transaction.TheVariants.{Suspend, Resume, Terminate, Delete, Clock}
use Rattle.navigator.specs.declared.instance.Instance.{Instance}
use Rattle.flow_core.specs.Answers.{instance_of}
use Rattle.flow_core.specs.Driving.{templates, activity_named, graph_now}
use Rattle.flow_core.specs.Summaries.{root_about, is_root}
pub use Rattle.live_history.specs.Transactions.{settings_in, start_settings}
use Rattle.flow_core.specs.declared.state.Core.{Core}
use Rattle.flow_core.specs.declared.views.RootFacts.{RootFacts}

-- the activity of an item, by the names on its path
abbrev pub activity_on : List Template → List Part → Graph → Option Activity
activity_on ts [] g = None
activity_on ts (q ∷ []) g = activity_named g q.name
activity_on ts (q ∷ (r ∷ qs)) g =
    option_and_then (λ activity. option_and_then (activity_on ts (r ∷ qs)) (graph_in ts activity.work))
    (activity_named g q.name)

-- the activity of an item of a live root
abbrev pub activity_now : Core → Path → Option Activity
activity_now c item = option_and_then (activity_on (templates c) item.parts) (graph_now c item.root)

-- the completion of an item of this activity, with these settings in its output
abbrev pub fact_by : Path → List Setting → Activity → Fact
fact_by item settings activity = record { item = item; output = filled settings (fresh activity.output) }

-- so, where the path leads to an activity
abbrev pub fact_at : Core → Path → List Setting → Option Fact
fact_at c item settings = option_map (fact_by item settings) (activity_now c item)

-- the completion that a transaction is
abbrev pub fact_of : Core → Transaction → Option Fact
fact_of c (Import text) = None
fact_of c (Start root process version starter key settings) = None
fact_of c (Turn queue message) = None
fact_of c (Claim item who) = None
fact_of c (Release item who) = None
fact_of c (Transfer item who to) = None
fact_of c (Take item take) = None
fact_of c (Done item who settings) = fact_at c item settings
fact_of c (Force item settings) = fact_at c item settings
fact_of c (Restart item) = None
fact_of c (Suspend root) = None
fact_of c (Resume root) = None
fact_of c (Terminate root) = None
fact_of c (Delete root) = None
fact_of c (Clock minutes) = None

-- the same, where it is about this root
abbrev pub fact_about : Core → ℕ → Numbered → Option Fact
fact_about c root n = if is_root root (root_about n.transaction) then fact_of c n.transaction else None

-- the accepted completions of a root, in order
abbrev pub accepted : Core → ℕ → List Fact
accepted c root = filter_map (fact_about c root) c.live.items

-- these are what the fates of a root follow from
pub record AreFactsOf (c : Core) (root : ℕ) (f : RootFacts) : Type 0 where
  pub number : f.root ≡ root
  pub instance : Instance
  pub live : instance_of c root ≡ Some instance
  pub template : f.template ≡ instance.template
  pub graph : Graph
  pub process : graph_now c root ≡ Some graph
  pub input : f.input ≡ filled (start_settings root c.live.items) (fresh (out-Graph graph).input)
  pub facts : f.facts ≡ accepted c root
