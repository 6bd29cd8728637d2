-- A state whose roots are right, and how the runs of its roots go on with a transaction.
use Rattle.std.specs.Prelude.{◌≡◌, ℕ, zero, suc, ◌==◌, ◌≤◌, Bool, true, false, if◌then◌else◌, Option, Some, None}
use Rattle.std.specs.Prelude.{option_and_then, List, [], ◌∷◌, ◌++◌, length}
use Rattle.std.specs.List.{filter, list_any}
use Rattle.containers.specs.Settings.{filled}
use Rattle.flow_core.specs.Allowing.{IsFree, CountsRoot, IsAllowed}
use Rattle.flow_core.specs.Answers.{instance_of}
use Rattle.flow_core.specs.Driving.{templates, graph_now, queue_by, around, item_of, Drives}
use Rattle.flow_core.specs.Facts.{accepted, start_settings}
use Rattle.flow_core.specs.Summaries.{root_about, is_root, started, live_after}
use Rattle.flow_core.specs.declared.state.Core.{Core}
use Rattle.flow_model.specs.Containers.{fresh}
use Rattle.flow_model.specs.Rows.{by_facts}
use Rattle.flow_model.specs.Scopes.{Known}
use Rattle.flow_model.specs.declared.graphs.Container.{Container}
use Rattle.flow_model.specs.declared.graphs.Graph.{Graph, out-Graph}
use Rattle.flow_model.specs.declared.graphs.Template.{Template}
use Rattle.flow_model.specs.declared.instances.Message.{Message}
use Rattle.flow_model.specs.declared.instances.Part.{Part}
use Rattle.flow_model.specs.declared.instances.Path.{Path}
use Rattle.flow_model.specs.declared.transactions.Numbered.{Numbered}
use Rattle.flow_model.specs.declared.transactions.Setting.{Setting}
use Rattle.flow_model.specs.declared.transactions.Transaction.{Transaction}
use Rattle.flow_model.specs.declared.transactions.Transaction.TheVariants.{Import, Start, Turn, Claim, Release}
use Rattle.flow_model.specs.declared.transactions.Transaction.TheVariants.{Transfer, Take, Done, Force, Restart}
use Rattle.flow_model.specs.declared.transactions.Transaction.TheVariants.{Suspend, Resume, Terminate, Delete, Clock}
use Rattle.navigator.specs.Items.{Entry}
use Rattle.navigator.specs.Showing.{note_in}
use Rattle.navigator.specs.declared.instance.Instance.{Instance}
use Rattle.recover_queue.specs.Queues.{queue, root_of}
use Rattle.root_laws.specs.RightRoots.{Queued, IsRight}
use Rattle.template_check.specs.Built.{AreSound}
use Rattle.view_laws.specs.Messages.{Note, BeginNote, SignalNote, EndNote}
use Rattle.view_laws.specs.Runs.{Event, Started, Turned, Completed, Held, Stopped, facts}

-- ---- right states

-- the messages of a root in each of these queues, the front first; queues are numbered from 1
abbrev pub messages_in : List (List Message) → ℕ → Queued
messages_in qs root zero = []
messages_in qs root (suc n) = filter (λ m. root_of m == root) (queue qs (suc n))

-- the parts of the scope that receives a message: an END is received by the scope around
abbrev pub receiver_of : Note → List Part
receiver_of (BeginNote p) = p
receiver_of (SignalNote p a b v) = p
receiver_of (EndNote p) = around p

-- the queue of a message of a root, by the places of its activities
abbrev pub place_queue : List Template → ℕ → ℕ → Option Graph → Note → ℕ
place_queue ts count root o note = queue_by ts count o root (receiver_of note)

-- its queue in a state
abbrev pub note_queue : Core → ℕ → Note → ℕ
note_queue c root = place_queue (templates c) (length c.queues) root (graph_now c root)

-- the input that these settings make for a graph
abbrev pub input_by : List Setting → Option Graph → Container
input_by settings None = record { values = [] }
input_by settings (Some g) = filled settings (fresh (out-Graph g).input)

-- the input of a live root, as its Start tells it
abbrev pub input_now : Core → ℕ → Container
input_now c root = input_by (start_settings root c.live.items) (graph_now c root)

-- a live root is right after a run on the input of its Start, and its messages stand in the queues of the state
pub record IsRightRoot (c : Core) (root : ℕ) (h : List Event) (i : Instance) : Type 0 where
  pub number : i.root ≡ root
  pub right : IsRight (templates c) (note_queue c root) h (messages_in c.queues root) (input_now c root) i

-- a state is right after these runs of its roots
abbrev pub AreRight : Core → (ℕ → List Event) → Type 0
AreRight c runs = (root : ℕ) (i : Instance) → instance_of c root ≡ Some i → IsRightRoot c root (runs root) i

-- ---- how runs go on

-- a run goes on with a message that is taken, where its activities are there
abbrev pub with_turn : Option Note → List Event → List Event
with_turn None h = h
with_turn (Some note) h = Turned note ∷ h

-- a run goes on with a completion of an item, where it is there
abbrev pub with_output : Path → List Setting → Option Entry → List Event → List Event
with_output item settings None h = h
with_output item settings (Some e) h = Completed
    (record { item = item; output = filled settings (fresh e.activity.output) }) ∷ h

-- a message by the places of its activities, where its root is live
abbrev pub note_now : Core → Message → Option Note
note_now c message = option_and_then (λ g. note_in (templates c) g message) (graph_now c (root_of message))

-- the run of the root that a transaction is about, after it
abbrev pub run_after : Core → Transaction → List Event → List Event
run_after c (Import text) h = h
run_after c (Start root process version starter key settings) h = Started ∷ []
run_after c (Turn number message) h = with_turn (note_now c message) h
run_after c (Claim item who) h = Held item.parts true ∷ h
run_after c (Release item who) h = Held item.parts false ∷ h
run_after c (Transfer item who to) h = Held item.parts true ∷ h
run_after c (Take item take) h = Held item.parts true ∷ h
run_after c (Done item who settings) h = with_output item settings (item_of c item) h
run_after c (Force item settings) h = with_output item settings (item_of c item) h
run_after c (Restart item) h = Held item.parts false ∷ h
run_after c (Suspend root) h = h
run_after c (Resume root) h = h
run_after c (Terminate root) h = Stopped ∷ h
run_after c (Delete root) h = h
run_after c (Clock minutes) h = h

-- the runs of all roots after it: each other root has had the run that it had
abbrev pub runs_after : Core → Transaction → (ℕ → List Event) → ℕ → List Event
runs_after c t runs root = if is_root root (root_about t) then run_after c t (runs root) else runs root

-- the runs after this many transactions of a history of states
abbrev pub runs_at : (ℕ → Core) → (ℕ → Transaction) → (ℕ → List Event) → ℕ → ℕ → List Event
runs_at states made runs zero = runs
runs_at states made runs (suc n) = runs_after (states n) (made n) (runs_at states made runs n)

-- ---- numbers of roots

-- no root of this number is live, and no message of it is queued
pub record IsUnused (c : Core) (root : ℕ) : Type 0 where
  pub absent : instance_of c root ≡ None
  pub unqueued : (n : ℕ) → messages_in c.queues root n ≡ []

-- no number that is free is used
abbrev pub AreCounted : Core → Type 0
AreCounted c = (root : ℕ) → IsFree c root → IsUnused c root

-- ---- completions

-- the items that a run completes, in order
abbrev pub completed_items : List Event → List Path
completed_items [] = []
completed_items (Started ∷ h) = completed_items h
completed_items (Turned m ∷ h) = completed_items h
completed_items (Completed f ∷ h) = completed_items h ++ f.item ∷ []
completed_items (Held p held ∷ h) = completed_items h
completed_items (Stopped ∷ h) = completed_items h

-- the item of a root that a transaction completes
abbrev pub completes_in : ℕ → Transaction → List Path
completes_in root (Done item who settings) = if item.root == root then item ∷ [] else []
completes_in root (Force item settings) = if item.root == root then item ∷ [] else []
completes_in root t = []

-- the items of a root that these transactions complete, in order
abbrev pub completed_by : ℕ → List Numbered → List Path
completed_by root [] = []
completed_by root (n ∷ ns) = completes_in root n.transaction ++ completed_by root ns

-- ---- what the live transactions tell

-- one of these transactions starts this root
abbrev pub has_start : ℕ → List Numbered → Bool
has_start root live = list_any (λ n. is_root root (started n.transaction)) live

-- the live transactions tell of a live root: they start it, and the completions of its run are exactly those that they
-- tell, item by item and with these outputs
pub record IsTold (c : Core) (root : ℕ) (h : List Event) : Type 0 where
  pub began : has_start root c.live.items ≡ true
  pub items : completed_items h ≡ completed_by root c.live.items
  pub facts : facts h ≡ accepted c root

-- they start and complete nothing of a root that is free
pub record IsUntold (c : Core) (root : ℕ) : Type 0 where
  pub unbegun : has_start root c.live.items ≡ false
  pub items : completed_by root c.live.items ≡ []

pub record AreTold (c : Core) (runs : ℕ → List Event) : Type 0 where
  pub told : (root : ℕ) (i : Instance) → instance_of c root ≡ Some i → IsTold c root (runs root)
  pub untold : (root : ℕ) → IsFree c root → IsUntold c root

-- what the accepted completions of a live root tell alone: all of them count, and nothing else does
abbrev pub known_now : Core → ℕ → Known
known_now c root = by_facts (length (accepted c root)) (accepted c root)

-- ---- states to which transactions lead

-- a state is right: its roots are after these runs, which complete what the live transactions do, free numbers are
-- unused, there is a queue, and the library is sound
pub record IsRightState (c : Core) (runs : ℕ → List Event) : Type 0 where
  pub are : AreRight c runs
  pub told : AreTold c runs
  pub counted : AreCounted c
  pub kept : c.kept ≤ c.number
  pub queued : 1 ≤ length c.queues
  pub sound : AreSound (templates c)

-- so it is after some runs
abbrev pub IsRightCore : Core → Type 0
IsRightCore c = (runs : ℕ → List Event) × IsRightState c runs

-- a transaction that may be makes the next state, and stands among the live ones under some number
pub record Makes (c : Core) (t : Transaction) (c' : Core) : Type 0 where
  pub allowed : IsAllowed c t
  pub drives : Drives c t c'
  pub counts : CountsRoot c t c'
  pub lives : (number : ℕ) × (c'.live.items ≡ live_after number t c.live.items)
