-- The state of the machine that a state of the engine stands for.
use Rattle.std.specs.Prelude.{◌≡◌, ℕ, false, Option, Some, None, option_map, List, [], ◌∷◌, ◌++◌}
use Rattle.activity_states.specs.declared.states.Completed.{Completed}
use Rattle.flow_core.specs.Answers.{instance_of}
use Rattle.flow_core.specs.Driving.{Drives}
use Rattle.flow_core.specs.Summaries.{summary, next}
use Rattle.flow_core.specs.declared.state.Core.{Core}
use Rattle.flow_model.specs.ScopeContainers.{graph_of}
use Rattle.flow_model.specs.declared.graphs.Graph.{Graph}
use Rattle.flow_model.specs.declared.graphs.Template.{Template}
use Rattle.flow_model.specs.declared.instances.Message.{Message}
use Rattle.flow_model.specs.declared.instances.Part.{Part}
use Rattle.flow_model.specs.declared.instances.Path.{Path}
use Rattle.flow_model.specs.declared.transactions.Transaction.{Transaction}
use Rattle.machine.specs.Imports.{Added, with_added}
use Rattle.machine.specs.States.{Root, State}
use Rattle.machine.specs.Steps.{clock_after}
use Rattle.machine.specs.Items as m
use Rattle.machine_scopes.specs.Seen.{scopes_of, row_of}
use Rattle.navigator.specs.Steps.{fields}
use Rattle.navigator.specs.Events.{Takes, Happens, Completes}
use Rattle.navigator.specs.Items.{Entry}
use Rattle.navigator.specs.declared.instance.Instance.{Instance}

-- a live root, as the machine sees it
abbrev pub root_of : Instance → Root
root_of i = record {
  template = i.template;
  starter = i.starter;
  suspended = i.suspended;
  terminated = i.terminated;
  scopes = scopes_of i.scope;
}

-- a state of the engine, as the machine sees it: how it is kept is left out
abbrev pub view : Core → State
view c = record {
  library = c.store;
  clock = c.clock;
  roots = λ root. option_map root_of (instance_of c root);
  queues = c.queues;
  live = c.live.items;
  limit = c.limit;
  transactions = c.number;
  last_root = c.roots;
}

-- an item as the machine sees it
abbrev pub entry_of : Entry → m.Entry
entry_of e = record {
  graph = e.graph;
  row = row_of (fields e.scope);
  number = e.number;
  activity = e.activity;
  state = e.state;
  attempt = e.attempt;
}

-- what a transaction does by the definitions of the engine, and what it does to the clock and to the library
pub record Does (c : Core) (t : Transaction) (added : Added) (c' : Core) : Type 0 where
  pub drives : Drives c t c'
  pub came : summary c' ≡ next t (summary c)
  pub clock : c'.clock ≡ clock_after t c.clock
  pub library : c'.store ≡ with_added added c.store

-- ---- the messages that follow from a turn and a completion

-- a root takes a message, and these messages follow
pub record TakesExactly (ts : List Template) (clock : ℕ) (message : Message) (given : List Message)
    (i i' : Instance) : Type 0 where
  pub items : List Path
  pub takes : i.terminated ≡ false → (g : Graph) → graph_of ts i.template ≡ Some g
      → Takes ts clock message g i.scope i'.scope given items

-- an item of a root is completed, and these messages follow
pub record CompletesExactly (ts : List Template) (clock : ℕ) (item : Path) (completed : Completed)
    (given : List Message) (i i' : Instance) : Type 0 where
  pub items : List Path
  pub completes : (g : Graph) → graph_of ts i.template ≡ Some g → (parts : List Part) (q : Part) → item.parts ≡ parts
      ++ q ∷ []
      → Happens ts (record { root = item.root; parts = parts }) clock
      (Completes q.name completed) g i.scope i'.scope given items

-- a root that is live before and after has changed so
abbrev pub WhereLive : (Instance → Instance → Type 0) → Option Instance → Option Instance → Type 0
WhereLive becomes None after = Unit {0}
WhereLive becomes (Some i) None = Unit {0}
WhereLive becomes (Some i) (Some i') = becomes i i'

-- ---- what is asked of a state

-- the graph of a root is there, and this holds of it
pub record HasGraph (ts : List Template) (P : Graph → Type 0) (i : Instance) : Type 0 where
  pub graph : Graph
  pub there : graph_of ts i.template ≡ Some graph
  pub meets : P graph

-- this holds of a root, where it is live
abbrev pub IfThere : (Instance → Type 0) → Option Instance → Type 0
IfThere P None = Unit {0}
IfThere P (Some i) = P i
