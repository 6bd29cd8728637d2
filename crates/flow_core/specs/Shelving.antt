-- What the worklists list: manual items as they stand, where each stands in show order, and what each transaction lists
-- anew or takes off.
use Rattle.std.specs.Prelude.{◌≡◌, ℕ, true, false, if◌then◌else◌, Option, Some, None, option_map, option_and_then}
use Rattle.std.specs.Prelude.{unwrap_or, is_some, List, [], ◌∷◌, ◌++◌, bytes_eq, fold}
use Rattle.activity_states.specs.States.{hold_of}
use Rattle.activity_states.specs.declared.states.Completed.{Completed}
use Rattle.containers.specs.Settings.{filled}
use Rattle.flow_model.specs.Containers.{fresh}
use Rattle.flow_model.specs.ScopeContainers.{graph_of}
use Rattle.flow_model.specs.declared.graphs.Graph.{Graph}
use Rattle.flow_model.specs.declared.graphs.Program.{Program as ProgramOf}
use Rattle.flow_model.specs.declared.graphs.Template.{Template}
use Rattle.flow_model.specs.declared.instances.ItemLine.{ItemLine}
use Rattle.flow_model.specs.declared.instances.Message.{Message}
use Rattle.flow_model.specs.declared.instances.Part.{Part}
use Rattle.flow_model.specs.declared.instances.Path.{Path}
use Rattle.flow_model.specs.declared.instances.Who.{Who}
use Rattle.flow_model.specs.declared.instances.Who.TheVariants as who
use Rattle.flow_model.specs.declared.names.Name.{Name}
use Rattle.flow_model.specs.declared.transactions.Setting.{Setting}
use Rattle.flow_model.specs.declared.transactions.Transaction.{Transaction}
use Rattle.flow_model.specs.declared.transactions.Transaction.TheVariants.{Import, Start, Turn, Claim, Release}
use Rattle.flow_model.specs.declared.transactions.Transaction.TheVariants.{Transfer, Take, Done, Force, Restart}
use Rattle.flow_model.specs.declared.transactions.Transaction.TheVariants.{Suspend, Resume, Terminate, Delete, Clock}
use Rattle.navigator.specs.Events.{Happens, Takes, Completes}
use Rattle.navigator.specs.Items.{Entry}
use Rattle.navigator.specs.Reading.{place_of}
use Rattle.navigator.specs.Showing.{graph_under}
use Rattle.navigator.specs.declared.instance.Instance.{Instance}
use Rattle.recover_queue.specs.Queues.{root_of}
use Rattle.staff_worklists.specs.Shelves.{shelf_for, is_held}
use Rattle.staff_worklists.specs.Standing.{item_in, listed_at, begins_with}
use Rattle.staff_worklists.specs.declared.worklists.Listed.{Listed}
use Rattle.staff_worklists.specs.declared.worklists.Shelf.{Shelf}
use Rattle.flow_core.specs.Allowing.{performer_for}
use Rattle.flow_core.specs.Answers.{instance_of}
use Rattle.flow_core.specs.Driving.{templates, graph_now, item_of, program_in, ChangesRoot, IfLive, put_in, queue_now}
use Rattle.flow_core.specs.Driving.{taken_by, IfNewest, RunsAt}
use Rattle.root_laws.specs.Becoming.{TakesIn, CompletesIn}
use Rattle.flow_core.specs.OpenItems.{starter_of}
use Rattle.flow_core.specs.declared.state.Core.{Core}

-- ---- one item

-- an item as a line: who holds it, its program, who started its root, and the person whose DONE PERFORMER OF asks for
abbrev pub line_by : Entry → ProgramOf → Name → ItemLine
line_by e p starter = record { hold = hold_of e.state; program = p; starter = starter; performer = performer_for e p }

-- a line of a manual item
abbrev pub if_manual : ItemLine → Option ItemLine
if_manual line = if line.program.manual then Some line else None

-- the item of a path as a line, where it is there and manual
abbrev pub line_now : Core → Path → Option ItemLine
line_now c path =
    option_and_then (λ e. option_and_then (λ p. option_and_then (λ starter. if_manual (line_by e p starter))
    (starter_of c path.root)) (program_in e.activity.work)) (item_of c path)

-- ---- where it stands in show order

-- the place and the attempt of a part, and what stands behind them; nothing where no activity has its name
abbrev pub ranked : ℕ → (ℕ → List ℕ) → Option ℕ → List ℕ
ranked attempt behind None = []
ranked attempt behind (Some a) = a ∷ attempt ∷ behind a

-- the place and the attempt of each part, as far as their names lead
abbrev pub rank_on : List Template → List Part → Graph → List ℕ
rank_on ts [] g = []
rank_on ts (q ∷ p) g =
    ranked q.attempt (λ a. rank_on ts p (unwrap_or (graph_under ts g (Some a)) g)) (place_of g q.name)

-- the rank of a path: its root, then that of its parts
abbrev pub rank_now : Core → Path → Option (List ℕ)
rank_now c path = option_map (λ g. path.root ∷ rank_on (templates c) path.parts g) (graph_now c path.root)

-- ---- what stands on the shelves

-- what stands on each shelf at each rank
abbrev pub Standing : Type 0
Standing = Shelf → List ℕ → Option Listed

abbrev pub stands : Core → Standing
stands c shelf rank = item_in c.worklists.shelves shelf rank

abbrev pub SameStanding : Standing → Standing → Type 0
SameStanding v w = (shelf : Shelf) (rank : List ℕ) → v shelf rank ≡ w shelf rank

-- a line of this rank stands on the shelf that it asks for, and on no other
abbrev pub with_line : Path → ItemLine → List ℕ → Standing → Standing
with_line path line own w shelf rank =
    if bytes_eq own rank then listed_at (shelf_for line) shelf
    (record { item = path; held = is_held line.hold }) else w shelf rank

-- nothing of this rank stands on any shelf
abbrev pub without_rank : List ℕ → Standing → Standing
without_rank own w shelf rank = if bytes_eq own rank then None else w shelf rank

-- nothing of this root stands on any shelf
abbrev pub without_items : ℕ → Standing → Standing
without_items root w shelf rank = if begins_with root rank then None else w shelf rank

-- a manual item that is there is listed as it stands; one that isn't changes nothing
abbrev pub listed_if : Path → Option ItemLine → Option (List ℕ) → Standing → Standing
listed_if path None own w = w
listed_if path (Some line) None w = w
listed_if path (Some line) (Some own) w = with_line path line own w

abbrev pub listed : Core → Standing → Path → Standing
listed c w path = listed_if path (line_now c path) (rank_now c path) w

-- these are listed one after the other
abbrev pub all_listed : Core → List Path → Standing → Standing
all_listed c paths w = fold (listed c) w paths

-- an item of this rank is taken off
abbrev pub unlisted_at : Option (List ℕ) → Standing → Standing
unlisted_at None w = w
unlisted_at (Some own) w = without_rank own w

-- so is an item that is there and manual; no other is on a shelf
abbrev pub unlisted : Core → Path → Standing → Standing
unlisted c path w = if is_some (line_now c path) then unlisted_at (rank_now c path) w else w

-- ---- which items a transaction makes ready

-- a root takes a message: these items became ready; a root that is terminated stays as it is
pub record MakesReady (ts : List Template) (clock : ℕ) (message : Message) (items : List Path)
    (i i' : Instance) : Type 0 where
  pub idle : i.terminated ≡ true → (i' ≡ i) × (items ≡ [])
  pub takes : i.terminated ≡ false → (given : List Message)
      × ((g : Graph) → graph_of ts i.template ≡ Some g → Takes ts clock message g i.scope i'.scope given items)

-- an item of it is completed so: these items became ready
pub record CompletesReady (ts : List Template) (clock : ℕ) (item : Path) (completed : Completed) (items : List Path)
    (i i' : Instance) : Type 0 where
  pub given : List Message
  pub completes : (g : Graph) → graph_of ts i.template ≡ Some g
      → (parts : List Part) (q : Part) → item.parts ≡ parts ++ q ∷ []
      → Happens ts (record { root = item.root; parts = parts }) clock (Completes q.name completed)
      g i.scope i'.scope given items

-- where the root is live; where it isn't, none did
abbrev pub IfRootLive : (List Path → Instance → Instance → Type 0) → List Path → Option Instance → Option Instance
    → Type 0
IfRootLive becomes items None after = (after ≡ None) × (items ≡ [])
IfRootLive becomes items (Some i) None = ⊥
IfRootLive becomes items (Some i) (Some i') = becomes items i i'

-- ---- what a turn and a completion do, with one list of the messages that follow
--
-- Driving says what a turn puts on the queues, and the clauses above say which items became ready, each with a list
-- of its own. Here both speak of the same messages and the same items, so that they determine the next state.

-- a root that isn't terminated takes a message: these messages follow, and these items become ready
pub record TakesGiving (ts : List Template) (clock : ℕ) (message : Message) (given : List Message) (items : List Path)
    (i i' : Instance) : Type 0 where
  pub takes : i.terminated ≡ false → (g : Graph) → graph_of ts i.template ≡ Some g
      → Takes ts clock message g i.scope i'.scope given items

-- an item of a root is completed: these messages follow, and these items become ready
pub record CompletesGiving (ts : List Template) (clock : ℕ) (item : Path) (completed : Completed)
    (given : List Message) (items : List Path) (i i' : Instance) : Type 0 where
  pub completes : (g : Graph) → graph_of ts i.template ≡ Some g
      → (parts : List Part) (q : Part) → item.parts ≡ parts ++ q ∷ []
      → Happens ts (record { root = item.root; parts = parts }) clock (Completes q.name completed)
      g i.scope i'.scope given items

-- a root that is live before and after has changed so
abbrev pub WhereLive : (Instance → Instance → Type 0) → Option Instance → Option Instance → Type 0
WhereLive becomes None after = Unit {0}
WhereLive becomes (Some i) None = Unit {0}
WhereLive becomes (Some i) (Some i') = becomes i i'

-- a turn of a queue: the messages that follow from it are the ones that are put
pub record ExactTurn (c : Core) (number : ℕ) (message : Message) (c' : Core) : Type 0 where
  pub given : List Message
  pub items : List Path
  pub roots : ChangesRoot (root_of message) (IfLive (TakesIn (templates c) message given) given) c c'
  pub takes : WhereLive (TakesGiving (templates c) c.clock message given items) (instance_of c (root_of message))
      (instance_of c' (root_of message))
  pub queues : c'.queues ≡ put_in (queue_now c') given (taken_by (Turn number message) c.queues)

-- a completion of an item that is there: the messages that follow from it are the ones that are put
pub record ExactCompletion (c : Core) (item : Path) (completed : Completed) (c' : Core) : Type 0 where
  pub given : List Message
  pub items : List Path
  pub roots : ChangesRoot item.root (IfLive (CompletesIn (templates c) item completed.output given) given) c c'
  pub completes : WhereLive (CompletesGiving (templates c) c.clock item completed given items)
      (instance_of c item.root) (instance_of c' item.root)
  pub queues : c'.queues ≡ put_in (queue_now c') given c.queues

-- ---- what a transaction does to the shelves

-- a turn lists the items that it made ready, as they stand after it
pub record TurnShelves (c : Core) (message : Message) (c' : Core) : Type 0 where
  pub items : List Path
  pub ready : IfRootLive (MakesReady (templates c) c.clock message) items (instance_of c (root_of message))
      (instance_of c' (root_of message))
  pub stand : SameStanding (stands c') (all_listed c' items (stands c))

-- a completion takes its item off, and lists those that it made ready
pub record CompletionShelves (c : Core) (item : Path) (completed : Completed) (c' : Core) : Type 0 where
  pub items : List Path
  pub ready : IfRootLive (CompletesReady (templates c) c.clock item completed) items (instance_of c item.root)
      (instance_of c' item.root)
  pub stand : SameStanding (stands c') (all_listed c' items (unlisted c item (stands c)))

-- so where the item is there; else nothing changes
abbrev pub CompletesShelves : Core → Path → Option Name → List Setting → Option Entry → Core → Type 0
CompletesShelves c item performer settings None c' = SameStanding (stands c') (stands c)
CompletesShelves c item performer settings (Some e) c' =
    CompletionShelves c item (record { output = filled settings (fresh e.activity.output); performer = performer }) c'

-- a change of a hold lists its item anew
abbrev pub HoldShelves : Core → Path → Core → Type 0
HoldShelves c item c' = SameStanding (stands c') (listed c' (stands c) item)

-- who counts as the performer of a completion: a person, no agent
abbrev pub performer_named : Who → Option Name
performer_named (who.Person name) = Some name
performer_named (who.Agent take) = None

-- what happens to the shelves by a transaction
abbrev pub Shelves : Core → Transaction → Core → Type 0
Shelves c (Turn number message) c' = TurnShelves c message c'
Shelves c (Claim item who) c' = HoldShelves c item c'
Shelves c (Release item who) c' = HoldShelves c item c'
Shelves c (Transfer item who to) c' = HoldShelves c item c'
Shelves c (Take item take) c' = HoldShelves c item c'
Shelves c (Restart item) c' = HoldShelves c item c'
Shelves c (Done item who settings) c' = CompletesShelves c item (performer_named who) settings (item_of c item) c'
Shelves c (Force item settings) c' = CompletesShelves c item None settings (item_of c item) c'
Shelves c (Terminate root) c' = SameStanding (stands c') (without_items root (stands c))
Shelves c (Import text) c' = SameStanding (stands c') (stands c)
Shelves c (Start root process version starter key settings) c' = SameStanding (stands c') (stands c)
Shelves c (Suspend root) c' = SameStanding (stands c') (stands c)
Shelves c (Resume root) c' = SameStanding (stands c') (stands c)
Shelves c (Delete root) c' = SameStanding (stands c') (stands c)
Shelves c (Clock minutes) c' = SameStanding (stands c') (stands c)

-- ---- a transaction, exactly

-- a completion changes its root so where the item is there
abbrev pub CompletesExactly : Core → Path → Option Name → List Setting → Option Entry → Core → Type 0
CompletesExactly c item performer settings None c' = Unit {0}
CompletesExactly c item performer settings (Some e) c' =
    ExactCompletion c item (record { output = filled settings (fresh e.activity.output); performer = performer }) c'

-- a Start runs the newest template of its name, where that has the version of the Start
abbrev pub StartsNewest : Core → ℕ → Name → ℕ → Core → Type 0
StartsNewest c root process version c' =
    IfNewest c.store process version (λ place. RunsAt place (instance_of c' root))

-- the transactions whose next state needs more than Drives and Shelves: what follows from a Turn or a completion is
-- what is put, and a Start takes the newest template
abbrev pub IsExact : Core → Transaction → Core → Type 0
IsExact c (Start root process version starter key settings) c' = StartsNewest c root process version c'
IsExact c (Turn number message) c' = ExactTurn c number message c'
IsExact c (Done item who settings) c' = CompletesExactly c item (performer_named who) settings (item_of c item) c'
IsExact c (Force item settings) c' = CompletesExactly c item None settings (item_of c item) c'
IsExact c t c' = Unit {0}
