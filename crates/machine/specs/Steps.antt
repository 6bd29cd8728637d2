-- The step: what a transaction does to the state.
use Rattle.std.specs.Prelude.{◌≡◌, ℕ, ◌+◌, ◌-◌, ◌==◌, max, Bool, true, false, not}
use Rattle.std.specs.Prelude.{if◌then◌else◌, Option, Some, None, option_and_then, option_map, List, [], ◌∷◌, ◌++◌}
use Rattle.std.specs.Prelude.{length, slice_get}
use Rattle.std.specs.List.{filter}
use Rattle.std.specs.Option.{option_map_or}
use Rattle.containers.specs.Settings.{filled}
use Rattle.flow_model.specs.Containers.{fresh}
use Rattle.flow_model.specs.ScopeContainers.{graph_of}
use Rattle.flow_model.specs.declared.graphs.Graph.{Graph, out-Graph}
use Rattle.flow_model.specs.declared.graphs.Library.{Library}
use Rattle.flow_model.specs.declared.graphs.Template.{Template}
use Rattle.flow_model.specs.declared.instances.Message.{Message}
use Rattle.flow_model.specs.declared.instances.Message.TheVariants.{Begin}
use Rattle.flow_model.specs.declared.instances.Path.{Path}
use Rattle.flow_model.specs.declared.instances.Who.{Who}
use Rattle.flow_model.specs.declared.instances.Who.TheVariants as who
use Rattle.flow_model.specs.declared.names.Name.{Name}
use Rattle.flow_model.specs.declared.transactions.Numbered.{Numbered}
use Rattle.flow_model.specs.declared.transactions.Setting.{Setting}
use Rattle.flow_model.specs.declared.transactions.Transaction.{Transaction}
use Rattle.flow_model.specs.declared.transactions.Transaction.TheVariants.{Import, Start, Turn, Claim, Release}
use Rattle.flow_model.specs.declared.transactions.Transaction.TheVariants.{Transfer, Take, Done, Force, Restart}
use Rattle.flow_model.specs.declared.transactions.Transaction.TheVariants.{Suspend, Resume, Terminate, Delete, Clock}
use Rattle.process_rules.specs.Imports.{newest_place}
use Rattle.recover_queue.specs.Queues.{root_of as root_of_message}
use Rattle.machine.specs.Imports.{Added, with_added, Adds}
use Rattle.machine.specs.Items.{Entry}
use Rattle.machine.specs.Moves.{Outcome, given_of, takes, completes_item, holds_item, Holding, ByPerson}
use Rattle.machine.specs.Moves.{ByAgent, ByNobody}
use Rattle.machine.specs.Queues.{queue_in, put_in, taken_by}
use Rattle.machine.specs.Rows.{fresh_scopes}
use Rattle.machine.specs.States.{Root, State, templates, graph_of_root, item_of}

-- ---- one root after a transaction

-- the root after a transaction, where it is live then, and the messages that it gives
pub record After : Type 0 where
  pub root : Option Root
  pub given : List Message

-- the root stays as it is, and nothing is given
abbrev pub stays : Option Root → After
stays r = record { root = r; given = [] }

-- a live root changes so, and gives nothing
abbrev pub quietly : (Root → Root) → Option Root → After
quietly change r = record { root = option_map change r; given = [] }

-- an event of the root has this outcome
abbrev pub moved : Root → Outcome → After
moved r o = record { root = Some (record r { scopes = o.scopes }); given = given_of o.told }

-- the same, where the root's graph is there
abbrev pub moved_in : (Graph → Outcome) → Root → Option Graph → After
moved_in move r None = stays (Some r)
moved_in move r (Some g) = moved r (move g)

-- the place of a template, where that has this version
abbrev pub if_version : ℕ → ℕ → Option Template → Option ℕ
if_version version place None = None
if_version version place (Some t) = if t.version == version then Some place else None

-- the place of the newest template of a name, where that has this version
abbrev pub version_place : Library → Name → ℕ → Option ℕ
version_place library process version =
    option_and_then (λ place. if_version version place (slice_get library.templates place))
    (newest_place library process)

-- a root starts from this graph: its only scope hasn't begun, and its BEGIN is given
abbrev pub started_from : ℕ → Name → List Setting → ℕ → Option Graph → Option Root → After
started_from root starter settings place None r = stays r
started_from root starter settings place (Some g) r = record {
  root = Some (record {
    template = place;
    starter = starter;
    suspended = false;
    terminated = false;
    scopes = fresh_scopes g (filled settings (fresh (out-Graph g).input));
  });
  given = Begin (record { root = root; parts = [] }) ∷ [];
}

-- the same from the template at a place, where there is one
abbrev pub started_at : List Template → ℕ → Name → List Setting → Option ℕ → Option Root → After
started_at ts root starter settings None r = stays r
started_at ts root starter settings (Some place) r = started_from root starter settings place (graph_of ts place) r

-- a root takes a message; a terminated one ignores it
abbrev pub turned : List Template → ℕ → Message → Option Root → After
turned ts clock message None = stays None
turned ts clock message (Some r) =
    if r.terminated then stays (Some r) else moved_in (λ g. takes ts clock message g r.scopes) r
    (graph_of ts r.template)

-- the hold of an item of a root is changed
abbrev pub holds : List Template → Path → Holding → Root → Root
holds ts item change r =
    record r {
      scopes = option_map_or (λ g. holds_item ts item.parts change g r.scopes)
          (graph_of ts r.template) r.scopes;
    }

-- an item of a root is completed with these settings of its output, where the item is there
abbrev pub completed_at : List Template → ℕ → Path → Option Name → List Setting → Option Entry → Option Root → After
completed_at ts clock item performer settings e None = stays None
completed_at ts clock item performer settings None (Some r) = stays (Some r)
completed_at ts clock item performer settings (Some e) (Some r) =
    moved_in (λ g. completes_item ts clock item
    (record { output = filled settings (fresh e.activity.output); performer = performer }) g r.scopes) r
    (graph_of ts r.template)

-- who counts as the performer of a completion: a person, no agent
abbrev pub performer_named : Who → Option Name
performer_named (who.Person name) = Some name
performer_named (who.Agent take) = None

-- the root that a transaction is about, after it
abbrev pub becomes : State → Transaction → Option Root → After
becomes s (Import text) r = stays r
becomes s (Start root process version starter key settings) r =
    started_at (templates s) root starter settings (version_place s.library process version) r
becomes s (Turn queue message) r = turned (templates s) s.clock message r
becomes s (Claim item who) r = quietly (holds (templates s) item (ByPerson who)) r
becomes s (Release item who) r = quietly (holds (templates s) item ByNobody) r
becomes s (Transfer item who to) r = quietly (holds (templates s) item (ByPerson to)) r
becomes s (Take item take) r = quietly (holds (templates s) item ByAgent) r
becomes s (Done item by settings) r =
    completed_at (templates s) s.clock item (performer_named by) settings (item_of s item) r
becomes s (Force item settings) r = completed_at (templates s) s.clock item None settings (item_of s item) r
becomes s (Restart item) r = quietly (holds (templates s) item ByNobody) r
becomes s (Suspend root) r = quietly (λ i. record i { suspended = true }) r
becomes s (Resume root) r = quietly (λ i. record i { suspended = false }) r
becomes s (Terminate root) r = quietly (λ i. record i { terminated = true }) r
becomes s (Delete root) r = stays None
becomes s (Clock minutes) r = stays r

-- ---- all roots

-- the root that a transaction is about
abbrev pub root_about : Transaction → Option ℕ
root_about (Import text) = None
root_about (Start root process version starter key settings) = Some root
root_about (Turn queue message) = Some (root_of_message message)
root_about (Claim item who) = Some item.root
root_about (Release item who) = Some item.root
root_about (Transfer item who to) = Some item.root
root_about (Take item take) = Some item.root
root_about (Done item who settings) = Some item.root
root_about (Force item settings) = Some item.root
root_about (Restart item) = Some item.root
root_about (Suspend root) = Some root
root_about (Resume root) = Some root
root_about (Terminate root) = Some root
root_about (Delete root) = Some root
root_about (Clock minutes) = None

-- a transaction is about this root
abbrev pub is_root : ℕ → Option ℕ → Bool
is_root root None = false
is_root root (Some other) = other == root

-- what a transaction gives
abbrev pub given_by : State → Transaction → Option ℕ → List Message
given_by s t None = []
given_by s t (Some root) = (becomes s t (s.roots root)).given

-- the roots after it: each other one stays as it is
abbrev pub roots_after : State → Transaction → ℕ → Option Root
roots_after s t root = if is_root root (root_about t) then (becomes s t (s.roots root)).root else s.roots root

-- the queue of a message, by the roots after the transaction
abbrev pub queue_then : List Template → ℕ → (ℕ → Option Root) → Message → ℕ
queue_then ts count roots message = queue_in ts count (graph_of_root ts (roots (root_of_message message))) message

-- the queues after it: it takes its message, and what it gives is put behind
abbrev pub queues_after : State → Transaction → List (List Message)
queues_after s t =
    put_in (queue_then (templates s) (length s.queues) (roots_after s t)) (given_by s t (root_about t))
    (taken_by t s.queues)

-- ---- clock, live transactions, counts

-- the clock after a transaction: a Clock sets it
abbrev pub clock_after : Transaction → ℕ → ℕ
clock_after (Clock minutes) clock = minutes
clock_after t clock = clock

-- the root that a transaction deletes
abbrev pub deleted : Transaction → Option ℕ
deleted (Delete root) = Some root
deleted t = None

-- the root that a transaction starts
abbrev pub started : Transaction → Option ℕ
started (Start root process version starter key settings) = Some root
started t = None

-- a Delete takes the live transactions about its root away and isn't live itself, every other one stays
abbrev pub live_by : Option ℕ → ℕ → Transaction → List Numbered → List Numbered
live_by None number t live = live ++ record { number = number; transaction = t } ∷ []
live_by (Some root) number t live = filter (λ n. not (is_root root (root_about n.transaction))) live

-- the greatest root number so far
abbrev pub last_root_by : Option ℕ → ℕ → ℕ
last_root_by None last = last
last_root_by (Some root) last = max root last

-- ---- the step

-- the state after a transaction, where this is what it adds to the library
abbrev pub after : Added → Transaction → State → State
after added t s = record {
  library = with_added added s.library;
  clock = clock_after t s.clock;
  roots = roots_after s t;
  queues = queues_after s t;
  live = live_by (deleted t) (s.transactions + 1) t s.live;
  limit = s.limit;
  transactions = s.transactions + 1;
  last_root = last_root_by (started t) s.last_root;
}

-- a transaction takes a state to the next
pub record Steps (s : State) (t : Transaction) (s' : State) : Type 0 where
  pub added : Added
  pub adds : Adds s.library t added
  pub next : s' ≡ after added t s

-- transactions do, one after the other
abbrev pub Runs : State → List Transaction → State → Type 0
Runs s [] s' = s' ≡ s
Runs s (t ∷ ts) s' = (mid : State) × Steps s t mid × Runs mid ts s'

-- ---- laws: a step leads to one state, and so does a history

-- what a transaction adds to a library is one thing
abbrev pub AdditionsAreOne : Type 0
AdditionsAreOne =
    (library : Library) (t : Transaction) (x y : Added) → Adds library t x → Adds library t y → x ≡ y

-- a transaction leads to one state
abbrev pub OneStepOnly : Type 0
OneStepOnly = (s s' s'' : State) (t : Transaction) → Steps s t s' → Steps s t s'' → s' ≡ s''

-- a history, transactions one after the other, leads to one state
abbrev pub OneHistory : Type 0
OneHistory = (ts : List Transaction) (s s' s'' : State) → Runs s ts s' → Runs s ts s'' → s' ≡ s''
