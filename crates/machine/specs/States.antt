-- The state of the machine: what all later replies are functions of, and nothing of how it is kept.
use Rattle.std.specs.Prelude.{ℕ, Bool, false, if◌then◌else◌, Option, Some, None, option_and_then}
use Rattle.std.specs.Prelude.{List, [], ◌∷◌, replicate, bytes_eq}
use Rattle.std.specs.Option.{option_or}
use Rattle.flow_model.specs.ScopeContainers.{graph_of}
use Rattle.flow_model.specs.declared.graphs.Graph.{Graph}
use Rattle.flow_model.specs.declared.graphs.Library.{Library}
use Rattle.flow_model.specs.declared.graphs.Template.{Template}
use Rattle.flow_model.specs.declared.instances.Message.{Message}
use Rattle.flow_model.specs.declared.instances.Path.{Path}
use Rattle.flow_model.specs.declared.names.Name.{Name}
use Rattle.flow_model.specs.declared.transactions.Numbered.{Numbered}
use Rattle.flow_model.specs.declared.transactions.Transaction.{Transaction}
use Rattle.flow_model.specs.declared.transactions.Transaction.TheVariants.{Start}
use Rattle.machine.specs.Items.{Entry, entry_at, program_entry}
use Rattle.machine.specs.Queues.{queue_in}
use Rattle.machine.specs.Rows.{Scopes}

-- a live root: the place of its template, who started it, whether it is suspended or terminated, and its scopes
pub record Root : Type 0 where
  pub template : ℕ
  pub starter : Name
  pub suspended : Bool
  pub terminated : Bool
  pub scopes : Scopes

-- the templates and people of the imports so far, the clock, the live roots by their numbers, the queues, the live
-- transactions, the limit,
-- and how many transactions and roots there were so far
pub record State : Type 0 where
  pub library : Library
  pub clock : ℕ
  pub roots : ℕ → Option Root
  pub queues : List (List Message)
  pub live : List Numbered
  pub limit : ℕ
  pub transactions : ℕ
  pub last_root : ℕ

-- a state with this number of queues and this limit, before any transaction
abbrev pub blank : ℕ → ℕ → State
blank queues limit = record {
  library = record { templates = []; people = [] };
  clock = 0;
  roots = λ root. None;
  queues = replicate queues [];
  live = [];
  limit = limit;
  transactions = 0;
  last_root = 0;
}

-- ---- what is read of it

-- the templates of the imports so far
abbrev pub templates : State → List Template
templates s = s.library.templates

-- the graph of a live root
abbrev pub graph_of_root : List Template → Option Root → Option Graph
graph_of_root ts r = option_and_then (λ i. graph_of ts i.template) r

-- the item of a path of a root
abbrev pub item_in : List Template → List Template → Path → Root → Option Entry
item_in ts all item r =
    option_and_then (λ g. entry_at ts item.parts (record { graph = g; scopes = r.scopes })) (graph_of all r.template)

-- the item of a path, where its root is live and its activity runs a program
abbrev pub item_of : State → Path → Option Entry
item_of s item = program_entry (option_and_then (item_in (templates s) (templates s) item) (s.roots item.root))

-- the queue of a message
abbrev pub queue_of : State → (Message → ℕ) → Message → ℕ
queue_of s root_of message = queue_in (templates s) 0 (graph_of_root (templates s) (s.roots (root_of message))) message

-- ---- keys: the live root that has one is that of the last live Start with it

-- a Start has this key
abbrev pub has_key : Name → Option Name → Bool
has_key key None = false
has_key key (Some other) = bytes_eq other key

-- the root that a transaction starts under this key
abbrev pub keyed_root : Name → Transaction → Option ℕ
keyed_root key (Start root process version starter other settings) = if has_key key other then Some root else None
keyed_root key t = None

-- the live root that has a key: that of the last live Start with it
abbrev pub root_with_key : Name → List Numbered → Option ℕ
root_with_key key [] = None
root_with_key key (n ∷ ns) = option_or (root_with_key key ns) (keyed_root key n.transaction)
