-- What a state asks of a transaction before it may be, and how the numbers of roots are counted.
use Rattle.std.specs.Prelude.{◌≡◌, ◌⊎◌, ℕ, ◌<◌, ◌≤◌, ◌==◌, ◌&&◌, false, Result, Ok, Err, Option, Some, None, List, []}
use Rattle.std.specs.Prelude.{option_map, IfSome, IsTrue}
use Rattle.activity_states.specs.States.{fate_of}
use Rattle.flow_model.specs.declared.graphs.DoneBy.{DoneBy}
use Rattle.flow_model.specs.declared.graphs.DoneBy.TheVariants as by
use Rattle.flow_model.specs.declared.graphs.Library.{Library}
use Rattle.flow_model.specs.declared.graphs.Program.{Program as ProgramOf}
use Rattle.flow_model.specs.declared.instances.Mode.{Mode}
use Rattle.flow_model.specs.declared.instances.Mode.TheVariants.{Active, Suspended}
use Rattle.flow_model.specs.declared.instances.Path.{Path}
use Rattle.flow_model.specs.declared.instances.Phase.TheVariants.{Ended}
use Rattle.flow_model.specs.declared.names.Name.{Name}
use Rattle.flow_model.specs.declared.transactions.Transaction.{Transaction}
use Rattle.flow_model.specs.declared.transactions.Transaction.TheVariants.{Import, Turn, Done, Force}
use Rattle.navigator.specs.Instances.{mode_of}
use Rattle.navigator.specs.Items.{Entry, entry_of, phase_of, performer_at}
use Rattle.navigator.specs.declared.instance.Instance.{Instance}
use Rattle.navigator.specs.declared.instance.Item.{Item}
use Rattle.navigator.specs.declared.scopes.ScopeState.{out-ScopeState}
use Rattle.recover_queue.specs.Queues.{is_quiet}
use Rattle.staff_worklists.specs.Standing.{item_in}
use Rattle.staff_worklists.specs.declared.worklists.Shelf.{Shelf}
use Rattle.template_check.specs.Judged.{IsFaultless}
use Rattle.flow_core.specs.Answers.{instance_of}
use Rattle.flow_core.specs.Driving.{templates, item_of, program_in, IsFront}
use Rattle.flow_core.specs.Summaries.{started}
use Rattle.flow_core.specs.declared.items.Known.{Known}
use Rattle.flow_core.specs.declared.refusals.Stop.{Stop}
use Rattle.flow_core.specs.declared.state.Core.{Core}

-- ---- items

-- the mode that the state of a root tells
abbrev pub mode_in : Instance → Mode
mode_in i =
    mode_of i.terminated ((out-ScopeState i.scope).begun && ((out-ScopeState i.scope).unsettled == 0)) i.suspended

-- a root of this mode is active or suspended
abbrev pub IsRunning : Mode → Type 0
IsRunning mode = (mode ≡ Active) ⊎ (mode ≡ Suspended)

-- the item that a test looks at
abbrev pub seen_entry : Item → Entry
seen_entry i = entry_of i.place.graph.now i.place.scope.now i.number i.activity.now i.state.now i.attempt

abbrev pub known_entry : Known → Entry
known_entry k = seen_entry k.item

-- an item with what the tests of a command ask of it: its program, the mode and the starter of its root, and the
-- person whose DONE PERFORMER OF asks for
pub record Subject : Type 0 where
  pub item : Entry
  pub program : ProgramOf
  pub mode : Mode
  pub starter : Name
  pub performer : Option Name

abbrev pub subject_of : Known → Subject
subject_of k = record {
  item = known_entry k;
  program = k.program.now;
  mode = k.mode;
  starter = k.starter.now;
  performer = option_map (λ name. name.now) k.performer;
}

-- the person whose DONE gave the final output of the activity that PERFORMER OF names, in the scope of the item
abbrev pub performer_by : Entry → DoneBy → Option Name
performer_by e (by.Role role) = None
performer_by e (by.Person name) = None
performer_by e by.Starter = None
performer_by e (by.PerformerOf place) = performer_at e.scope place

abbrev pub performer_for : Entry → ProgramOf → Option Name
performer_for e p = performer_by e p.by

-- it is the item of this path, as it and its root stand
pub record IsThere (c : Core) (path : Path) (s : Subject) : Type 0 where
  pub there : item_of c path ≡ Some s.item
  pub program : program_in s.item.activity.work ≡ Some s.program
  pub mode : option_map mode_in (instance_of c path.root) ≡ Some s.mode
  pub starter : option_map (λ i. i.starter) (instance_of c path.root) ≡ Some s.starter
  pub performer : s.performer ≡ performer_for s.item s.program

abbrev pub IsKnown : Core → Path → Known → Type 0
IsKnown c path k = IsThere c path (subject_of k)

-- the item of a path is there and open, in a root that is live and not terminated
pub record IsOpen (c : Core) (path : Path) : Type 0 where
  pub root : Instance
  pub live : instance_of c path.root ≡ Some root
  pub runs : root.terminated ≡ false
  pub item : Entry
  pub there : item_of c path ≡ Some item
  pub unended : phase_of (fate_of item.state) item.attempt ≡ Ended → ⊥

-- a test of a command is passed
abbrev pub IsPassed : {T : Type 0} → Result T Stop → Type 0
IsPassed (Ok x) = Unit {0}
IsPassed (Err stop) = ⊥

-- ---- numbers of roots

-- no root has had a number that is free: it is above those so far, or above the last kept one while kept records are
-- taken up
abbrev pub IsFree : Core → ℕ → Type 0
IsFree c root = (c.roots < root) ⊎ ((c.number ≤ c.kept) × (c.kept_root < root))

-- what was free goes on being free, but for the number of a root that is started
pub record CountsRoot (c : Core) (t : Transaction) (c' : Core) : Type 0 where
  pub kept : c.kept ≤ c.number → c'.kept ≤ c'.number
  pub free : (root : ℕ) → IsFree c' root → IsFree c root
  pub used : c.kept ≤ c.number → (root : ℕ) → started t ≡ Some root → IsFree c' root → ⊥

-- ---- transactions

-- an Import has a text that breaks no rule behind this library
abbrev pub IsFaultlessImport : Library → Transaction → Type 0
IsFaultlessImport library (Import text) = IsFaultless library text
IsFaultlessImport library t = Unit {0}

-- an Import has a text that breaks no rule, a Turn takes the front of its queue, and a completion is of an item that is
-- open
abbrev pub IsAsked : Core → Transaction → Type 0
IsAsked c (Import text) = IsFaultlessImport c.store (Import text)
IsAsked c (Turn queue message) = IsFront c queue message
IsAsked c (Done item who settings) = IsOpen c item
IsAsked c (Force item settings) = IsOpen c item
IsAsked c t = Unit {0}

-- so it is at this item, where the transaction is of an item
abbrev pub IsAskedAt : Core → Path → Transaction → Type 0
IsAskedAt c path (Done item who settings) = IsOpen c path
IsAskedAt c path (Force item settings) = IsOpen c path
IsAskedAt c path t = Unit {0}

-- so it may be, where a root that it starts has a number that is free
pub record IsAllowed (c : Core) (t : Transaction) : Type 0 where
  pub asked : IsAsked c t
  pub free : IfSome (started t) (IsFree c)

-- ---- a state before any transaction

-- no root and no transaction is live, no message is queued, no template and no person was imported, no item is listed,
-- no key is in use, and the clock stands at 0
pub record IsBlank (c : Core) : Type 0 where
  pub roots : (root : ℕ) → instance_of c root ≡ None
  pub queues : IsTrue (is_quiet c.queues)
  pub library : templates c ≡ []
  pub people : c.store.people ≡ []
  pub clock : c.clock ≡ 0
  pub keys : c.keys.entries ≡ []
  pub live : c.live.items ≡ []
  pub unlisted : (shelf : Shelf) (rank : List ℕ) → item_in c.worklists.shelves shelf rank ≡ None
