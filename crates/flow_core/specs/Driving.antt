-- What a transaction does to the roots of a state, which messages it gives, and in which queues they stand.
use Rattle.std.specs.Prelude.{◌≡◌, ◌⊎◌, ℕ, ◌+◌, ◌-◌, ◌^◌, ◌%◌, ◌≤◌, min, max, Bool, true, false, Option, Some, None}
use Rattle.std.specs.Prelude.{option_and_then, IfSome, List, [], ◌∷◌, ◌++◌, take, drop, length, slice_get}
use Rattle.flow_model.specs.Containers.{fresh}
use Rattle.flow_model.specs.ScopeContainers.{graph_in, graph_of}
use Rattle.flow_model.specs.declared.graphs.Activity.{Activity}
use Rattle.flow_model.specs.declared.graphs.Container.{Container}
use Rattle.flow_model.specs.declared.graphs.Graph.{Graph, out-Graph}
use Rattle.flow_model.specs.declared.graphs.Program.{Program as ProgramOf}
use Rattle.flow_model.specs.declared.graphs.Template.{Template}
use Rattle.flow_model.specs.declared.graphs.Work.{Work, Program, Block, Process}
use Rattle.flow_model.specs.declared.instances.Message.{Message}
use Rattle.flow_model.specs.declared.instances.Message.TheVariants.{Begin, Signal, End}
use Rattle.flow_model.specs.declared.instances.Part.{Part}
use Rattle.flow_model.specs.declared.instances.Path.{Path}
use Rattle.flow_model.specs.declared.names.Name.{Name}
use Rattle.flow_model.specs.declared.transactions.Setting.{Setting}
use Rattle.flow_model.specs.declared.transactions.Transaction.{Transaction}
use Rattle.flow_model.specs.declared.transactions.Transaction.TheVariants.{Import, Start, Turn, Claim, Release}
use Rattle.flow_model.specs.declared.transactions.Transaction.TheVariants.{Transfer, Take, Done, Force, Restart}
use Rattle.flow_model.specs.declared.transactions.Transaction.TheVariants.{Suspend, Resume, Terminate, Delete, Clock}
use Rattle.containers.specs.Settings.{filled}
use Rattle.navigator.specs.Instances.{IsStarted}
use Rattle.navigator.specs.Items.{Entry, entry_at, stand}
use Rattle.navigator.specs.Reading.{place_of}
use Rattle.navigator.specs.declared.instance.HoldChange.{HoldChange}
use Rattle.navigator.specs.declared.instance.HoldChange.TheVariants as hold
use Rattle.navigator.specs.declared.instance.Instance.{Instance}
use Rattle.recover_queue.specs.Queues.{root_of as root_of_message, queue, with_queue}
use Rattle.root_laws.specs.Becoming.{TakesIn, CompletesIn, HoldsIn}
use Rattle.flow_model.specs.declared.graphs.Library.{Library}
use Rattle.template_check.specs.Built.{AreSound}
use Rattle.template_store.specs.Store.{AddsText}
use Rattle.process_rules.specs.Imports.{newest_place}
use Rattle.flow_core.specs.Answers.{instance_of}
use Rattle.flow_core.specs.Summaries.{root_about}
use Rattle.flow_core.specs.declared.state.Core.{Core}

-- the templates of the imports so far
abbrev pub templates : Core → List Template
templates c = c.store.templates

-- ---- what happens to one root

-- the template at a place is this version of a process
pub record IsVersionAt (ts : List Template) (process : Name) (version place : ℕ) : Type 0 where
  pub template : Template
  pub there : slice_get ts place ≡ Some template
  pub name : template.name ≡ process
  pub number : template.version ≡ version

-- there is no such version
abbrev pub HasNoVersion : List Template → Name → ℕ → Type 0
HasNoVersion ts process version = (place : ℕ) → IsVersionAt ts process version place → ⊥

-- it is started by this version of a process, with these settings in its input
pub record StartsIn (ts : List Template) (root : ℕ) (process : Name) (version : ℕ) (starter : Name)
    (settings : List Setting) (i : Instance) : Type 0 where
  pub template : ℕ
  pub version_at : IsVersionAt ts process version template
  pub graph : Graph
  pub input : Container
  pub there : graph_of ts template ≡ Some graph
  pub filled : input ≡ filled settings (fresh (out-Graph graph).input)
  pub started : IsStarted ts template root starter input i

-- what a START makes: the root that is started, or none where the version isn't there
abbrev pub IsMade : List Template → ℕ → Name → ℕ → Name → List Setting → Option Instance → Type 0
IsMade ts root process version starter settings None = HasNoVersion ts process version
IsMade ts root process version starter settings (Some i) = StartsIn ts root process version starter settings i

-- the place of a version, or none where it isn't there
abbrev pub IsVersionPlace : List Template → Name → ℕ → Option ℕ → Type 0
IsVersionPlace ts process version None = HasNoVersion ts process version
IsVersionPlace ts process version (Some place) = IsVersionAt ts process version place

-- the newest template of a name has this version and stands at this place
pub record IsNewestVersion (library : Library) (process : Name) (version place : ℕ) : Type 0 where
  pub newest : newest_place library process ≡ Some place
  pub version_at : IsVersionAt library.templates process version place

-- this is so of the place of the newest template, where a Start has its version
abbrev pub IfNewest : Library → Name → ℕ → (ℕ → Type 0) → Type 0
IfNewest library process version fact = (place : ℕ) → IsNewestVersion library process version place → fact place

-- a root that was started is there and runs the template at this place
abbrev pub RunsAt : ℕ → Option Instance → Type 0
RunsAt place None = ⊥
RunsAt place (Some i) = i.template ≡ place

-- ---- which item

-- the item of a path, where its root is live
abbrev pub entry_in : List Template → Path → Instance → Option Entry
entry_in ts item i = option_and_then (λ g. entry_at ts item.parts (stand g i.scope)) (graph_of ts i.template)

-- the program that an activity runs
abbrev pub program_in : Work → Option ProgramOf
program_in (Program p) = Some p
program_in (Block g) = None
program_in (Process t) = None

abbrev pub entry_with : Entry → Option ProgramOf → Option Entry
entry_with e None = None
entry_with e (Some p) = Some e

-- the item, if its activity runs a program
abbrev pub program_entry : Option Entry → Option Entry
program_entry None = None
program_entry (Some e) = entry_with e (program_in e.activity.work)

abbrev pub item_of : Core → Path → Option Entry
item_of c item = program_entry (option_and_then (entry_in (templates c) item) (instance_of c item.root))

-- ---- what happens to the root of a transaction

-- where a root is live, this becomes of it; where it isn't, nothing is given
abbrev pub IfLive : (Instance → Instance → Type 0) → List Message → Option Instance → Option Instance → Type 0
IfLive becomes given None after = (after ≡ None) × (given ≡ [])
IfLive becomes given (Some i) None = ⊥
IfLive becomes given (Some i) (Some i') = becomes i i'

-- it stays as it is, and gives nothing
abbrev pub Stays : List Message → Option Instance → Option Instance → Type 0
Stays given before after = (after ≡ before) × (given ≡ [])

-- this becomes of it, and it gives nothing
abbrev pub BecomesQuietly : (Instance → Instance → Type 0) → List Message → Option Instance → Option Instance → Type 0
BecomesQuietly becomes given before after = IfLive becomes given before after × (given ≡ [])

-- a START starts it, and gives the BEGIN of its scope; where the version isn't there it stays as it is
abbrev pub BecomesStarted : List Template → ℕ → Name → ℕ → Name → List Setting → List Message → Option Instance
    → Option Instance → Type 0
BecomesStarted ts root process version starter settings given before None =
    Stays given before None × HasNoVersion ts process version
BecomesStarted ts root process version starter settings given before (Some i) =
    (Stays given before (Some i) × HasNoVersion ts process version)
    ⊎ (StartsIn ts root process version starter settings i × (given ≡ Begin (record { root = root; parts = [] }) ∷ []))

-- an item is completed, with these settings in the output; where it isn't there nothing happens
abbrev pub BecomesCompleted : List Template → Path → List Setting → Option Entry → List Message → Option Instance
    → Option Instance → Type 0
BecomesCompleted ts item settings None given before after = Stays given before after
BecomesCompleted ts item settings (Some e) given before after =
    IfLive (CompletesIn ts item (filled settings (fresh e.activity.output)) given) given before after

abbrev pub IsSuspended : Bool → Instance → Instance → Type 0
IsSuspended suspended i i' = i' ≡ record i { suspended = suspended }

abbrev pub IsTerminated : Instance → Instance → Type 0
IsTerminated i i' = i' ≡ record i { terminated = true }

-- what happens to the root that a transaction is about, and what it gives, by the templates and the items that are
-- there
abbrev pub Becomes : List Template → (Path → Option Entry) → Transaction → List Message → Option Instance
    → Option Instance → Type 0
Becomes ts found (Import text) given before after = Stays given before after
Becomes ts found (Start root process version starter key settings) given before after =
    BecomesStarted ts root process version starter settings given before after
Becomes ts found (Turn queue message) given before after = IfLive (TakesIn ts message given) given before after
Becomes ts found (Claim item who) given before after =
    BecomesQuietly (HoldsIn ts item (hold.Person who)) given before after
Becomes ts found (Release item who) given before after = BecomesQuietly (HoldsIn ts item hold.Nobody) given before after
Becomes ts found (Transfer item who to) given before after =
    BecomesQuietly (HoldsIn ts item (hold.Person to)) given before after
Becomes ts found (Take item take) given before after = BecomesQuietly (HoldsIn ts item hold.Agent) given before after
Becomes ts found (Done item who settings) given before after =
    BecomesCompleted ts item settings (found item) given before after
Becomes ts found (Force item settings) given before after =
    BecomesCompleted ts item settings (found item) given before after
Becomes ts found (Restart item) given before after = BecomesQuietly (HoldsIn ts item hold.Nobody) given before after
Becomes ts found (Suspend root) given before after = BecomesQuietly (IsSuspended true) given before after
Becomes ts found (Resume root) given before after = BecomesQuietly (IsSuspended false) given before after
Becomes ts found (Terminate root) given before after = BecomesQuietly IsTerminated given before after
Becomes ts found (Delete root) given before after = (after ≡ None) × (given ≡ [])
Becomes ts found (Clock minutes) given before after = Stays given before after

-- ---- all roots

-- this becomes of a root, and all other roots stay as they are
pub record ChangesRoot (root : ℕ) (becomes : Option Instance → Option Instance → Type 0) (c c' : Core) : Type 0 where
  pub here : becomes (instance_of c root) (instance_of c' root)
  pub others : (other : ℕ) → (other ≡ root → ⊥) → instance_of c' other ≡ instance_of c other

-- a transaction about no root changes none
abbrev pub ChangesRoots : Core → Transaction → List Message → Option ℕ → Core → Type 0
ChangesRoots c t given None c' = ((root : ℕ) → instance_of c' root ≡ instance_of c root) × (given ≡ [])
ChangesRoots c t given (Some root) c' = ChangesRoot root (Becomes (templates c) (item_of c) t given) c c'

-- ---- queues

-- the parts of the scope that receives a message: an END is received by the scope around
abbrev pub around : List Part → List Part
around parts = take (length parts - 1) parts

abbrev pub receiver : Message → List Part
receiver (Begin path) = path.parts
receiver (Signal path from to v) = path.parts
receiver (End path) = around path.parts

-- the process activities on the way along these parts
abbrev pub is_process : Work → ℕ
is_process (Program p) = 0
is_process (Block g) = 0
is_process (Process t) = 1

abbrev pub processes_below : (Graph → ℕ) → Option Graph → ℕ
processes_below count None = 0
processes_below count (Some h) = count h

abbrev pub processes_from : (Work → ℕ) → Option Activity → ℕ
processes_from count None = 0
processes_from count (Some activity) = is_process activity.work + count activity.work

abbrev pub activity_named : Graph → Name → Option Activity
activity_named g name = option_and_then (slice_get (out-Graph g).activities) (place_of g name)

abbrev pub processes_along : List Template → List Part → Graph → ℕ
processes_along ts [] g = 0
processes_along ts (q ∷ p) g =
    processes_from (λ work. processes_below (processes_along ts p) (graph_in ts work)) (activity_named g q.name)

-- the queue of a scope: 1 and the remainder of the root's number and the process activities on the way, by the number
-- of queues
abbrev pub queue_by : List Template → ℕ → Option Graph → ℕ → List Part → ℕ
queue_by ts count None root parts = 1
queue_by ts count (Some g) root parts = (root + min (processes_along ts parts g) (2 ^ 64 - 1)) % max count 1 + 1

-- that of a message is the one of the scope that receives it
abbrev pub queue_in : List Template → ℕ → Option Graph → Message → ℕ
queue_in ts count o message = queue_by ts count o (root_of_message message) (receiver message)

-- the graph of a live root
abbrev pub graph_now : Core → ℕ → Option Graph
graph_now c root = option_and_then (λ i. graph_of (templates c) i.template) (instance_of c root)

abbrev pub queue_now : Core → Message → ℕ
queue_now c message = queue_in (templates c) (length c.queues) (graph_now c (root_of_message message)) message

-- the message stands at the front of this queue
abbrev pub IsFront : Core → ℕ → Message → Type 0
IsFront c number message = (1 ≤ number) × (slice_get (queue c.queues number) 0 ≡ Some message)

-- the queues after messages are put in turn, each at the back of its queue
abbrev pub put_in : (Message → ℕ) → List Message → List (List Message) → List (List Message)
put_in queue_of [] qs = qs
put_in queue_of (m ∷ given) qs = put_in queue_of given (with_queue qs (queue_of m) (queue qs (queue_of m) ++ m ∷ []))

-- the queues after a transaction has taken its message: a Turn takes the front of a queue
abbrev pub taken_by : Transaction → List (List Message) → List (List Message)
taken_by (Turn number message) qs = with_queue qs number (drop 1 (queue qs number))
taken_by t qs = qs

-- ---- the library

-- an import puts templates behind those that are there, and keeps the library sound; all other transactions leave it
abbrev pub TemplatesAfter : Transaction → List Template → List Template → Type 0
TemplatesAfter (Import text) ts ts' = ((more : List Template) × (ts' ≡ ts ++ more)) × (AreSound ts → AreSound ts')
TemplatesAfter t ts ts' = ts' ≡ ts

-- the library after a transaction: an Import adds what its text compiles to; every other transaction leaves the
-- templates and the people as they were
abbrev pub LibraryAfter : Transaction → Library → Library → Type 0
LibraryAfter (Import text) old new = AddsText text old new
LibraryAfter t old new = new ≡ old

-- ---- the clock

-- the clock after a transaction: a Clock sets it, every other one leaves it
abbrev pub clock_after : Transaction → ℕ → ℕ
clock_after (Clock minutes) clock = minutes
clock_after t clock = clock

-- ---- a transaction

-- the hold of an item is changed so, and nothing is put
pub record HoldsItem (c : Core) (item : Path) (change : HoldChange) (c' : Core) : Type 0 where
  pub roots : ChangesRoot item.root (BecomesQuietly (HoldsIn (templates c) item change) []) c c'
  pub queues : c'.queues ≡ c.queues
  pub library : templates c' ≡ templates c

-- an item is completed with these settings in its output, and what follows is put
pub record CompletesItem (c : Core) (item : Path) (settings : List Setting) (c' : Core) : Type 0 where
  pub given : List Message
  pub roots : ChangesRoot item.root (BecomesCompleted (templates c) item settings (item_of c item) given) c c'
  pub queues : c'.queues ≡ put_in (queue_now c') given c.queues
  pub library : templates c' ≡ templates c

-- it changes its root alone, what it gives is put into the queues, behind what it has left there, and the library is
-- the one after it
pub record Drives (c : Core) (t : Transaction) (c' : Core) : Type 0 where
  pub given : List Message
  pub roots : ChangesRoots c t given (root_about t) c'
  pub queues : c'.queues ≡ put_in (queue_now c') given (taken_by t c.queues)
  pub library : TemplatesAfter t (templates c) (templates c')

-- the message that a Turn takes, with its queue
abbrev pub turn_of : Transaction → Option (ℕ × Message)
turn_of (Turn number message) = Some (number, message)
turn_of t = None

-- it stands at the front of its queue
abbrev pub IsFrontOf : Core → Transaction → Type 0
IsFrontOf c t = IfSome (turn_of t) (λ turn. IsFront c turn.0 turn.1)
