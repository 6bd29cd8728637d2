-- The verdict on a command in a state: its tests in their order, the first refusal of them, or its transaction.
use Rattle.std.specs.Prelude.{◌≤◌, ◌≡◌, ◌⊎◌, ℕ, ◌+◌, ◌-◌, ◌^◌, ◌==◌, ◌&&◌, min, nat_lt, nat_le, Bool, true, false}
use Rattle.std.specs.Prelude.{if◌then◌else◌, Result, Ok, Err, Option, Some, None, is_some, option_map, option_and_then}
use Rattle.std.specs.Prelude.{List, [], ◌∷◌, length, take, drop, slice_get}
use Rattle.activity_states.specs.States.{fate_of, hold_of}
use Rattle.containers.specs.Settings.{outcome_by}
use Rattle.flow_model.specs.Paths.{Spells, SpellsNoPath}
use Rattle.flow_model.specs.declared.commands.Command.{Command}
use Rattle.flow_model.specs.declared.commands.Command.TheVariants as asked
use Rattle.flow_model.specs.declared.commands.Outcome.{Outcome}
use Rattle.flow_model.specs.declared.commands.RawSetting.{RawSetting}
use Rattle.flow_model.specs.declared.graphs.Graph.{out-Graph}
use Rattle.flow_model.specs.declared.graphs.Leaves.{Leaves}
use Rattle.flow_model.specs.declared.graphs.PersonDef.{PersonDef}
use Rattle.flow_model.specs.declared.graphs.Template.{Template}
use Rattle.flow_model.specs.declared.instances.Hold.{Hold}
use Rattle.flow_model.specs.declared.instances.Mode.{Mode}
use Rattle.flow_model.specs.declared.instances.Mode.TheVariants.{Active, Suspended, Done, Terminated}
use Rattle.flow_model.specs.declared.instances.Path.{Path}
use Rattle.flow_model.specs.declared.instances.Phase.{Phase}
use Rattle.flow_model.specs.declared.instances.Phase.TheVariants as phase
use Rattle.flow_model.specs.declared.instances.Who.{Who}
use Rattle.flow_model.specs.declared.instances.Who.TheVariants as who
use Rattle.flow_model.specs.declared.names.Name.{Name}
use Rattle.flow_model.specs.declared.transactions.Setting.{Setting}
use Rattle.flow_model.specs.declared.trees.NumberAt.{NumberAt}
use Rattle.recover_queue.specs.Queues.{queue as messages_of, count_of_root}
use Rattle.staff_worklists.specs.Rights.{is_eligible, is_running, claim_answer, release_answer, transfer_answer}
use Rattle.staff_worklists.specs.Rights.{taking_answer, done_answer}
use Rattle.staff_worklists.specs.declared.rights.StaffFault.{StaffFault}
use Rattle.staff_worklists.specs.declared.rights.StaffFault.TheVariants as fault
use Rattle.process_rules.specs.Imports.{newest_place, latest_person}
use Rattle.template_check.specs.Judged.{line_at, IsFaultless, IsRefused as IsTextRefused}
use Rattle.flow_core.specs.declared.refusals.Refusal.{Refusal}
use Rattle.flow_core.specs.declared.refusals.Refusal.TheVariants as refused
use Rattle.activity_states.specs.States.{next_take, performer_of}
use Rattle.flow_model.specs.declared.graphs.DoneBy.{DoneBy}
use Rattle.flow_model.specs.declared.graphs.DoneBy.TheVariants as by
use Rattle.flow_model.specs.declared.graphs.Program.{Program as ProgramOf}
use Rattle.flow_model.specs.declared.instances.Fate.{Fate}
use Rattle.flow_model.specs.declared.instances.Fate.TheVariants as fate
use Rattle.flow_model.specs.declared.instances.Message.{Message}
use Rattle.flow_model.specs.declared.instances.SourceEnd.{SourceEnd}
use Rattle.flow_model.specs.declared.instances.SourceEnd.TheVariants as end
use Rattle.flow_model.specs.declared.instances.Mode.TheVariants as mode
use Rattle.flow_model.specs.declared.transactions.Transaction.{Transaction}
use Rattle.flow_model.specs.declared.transactions.Transaction.TheVariants as made
use Rattle.navigator.specs.Instances.{mode_of}
use Rattle.flow_core.specs.declared.applying.Note.{Note}
use Rattle.flow_core.specs.declared.applying.Note.TheVariants as note
use Rattle.flow_core.specs.declared.judging.Verdict.{Verdict}
use Rattle.flow_core.specs.declared.judging.Verdict.TheVariants as verdict
use Rattle.machine.specs.Items.{Entry, program_in}
use Rattle.machine.specs.Rows.{Row, Standing, Item, Inner}
use Rattle.machine.specs.States.{Root, State, templates, item_of, root_with_key}
use Rattle.std.specs.Option.{option_or, option_map_or}

-- ---- what is read of roots and items

-- a scope in which all activities are settled
abbrev pub is_whole : Option Row → Bool
is_whole None = false
is_whole (Some r) = r.begun && (r.unsettled == 0)

-- the mode of a root
abbrev pub mode_in : Root → Mode
mode_in r = mode_of r.terminated (is_whole (r.scopes [])) r.suspended

-- an attempt is ready or running only while it is the open one
abbrev pub phase_of : Fate → ℕ → Phase
phase_of fate.Waiting n = phase.Ended
phase_of (fate.Ready j) n = if j == n then phase.Ready else phase.Ended
phase_of (fate.Running j) n = if j == n then phase.Running else phase.Ended
phase_of (fate.Finished j) n = phase.Ended
phase_of fate.Dead n = phase.Ended

-- the person whose completion gave the final output of the activity at a place of a scope
abbrev pub performer_in : Option Standing → Option Name
performer_in None = None
performer_in (Some (Item p)) = performer_of p
performer_in (Some (Inner stage n)) = None

-- the same, where the activity has finished
abbrev pub performer_if : Option SourceEnd → Option Standing → Option Name
performer_if None standing = None
performer_if (Some end.Unsettled) standing = None
performer_if (Some end.Dead) standing = None
performer_if (Some (end.Finished output)) standing = performer_in standing

-- the performer that PERFORMER OF names, for an activity that is done by that
abbrev pub performer_by : Entry → DoneBy → Option Name
performer_by e (by.Role role) = None
performer_by e (by.Person name) = None
performer_by e by.Starter = None
performer_by e (by.PerformerOf place) = performer_if (slice_get e.row.ends place) (slice_get e.row.standings place)

-- an item with what the tests of a command ask of it
pub record Subject : Type 0 where
  pub item : Entry
  pub program : ProgramOf
  pub mode : Mode
  pub starter : Name
  pub performer : Option Name

-- an item with what its tests ask, where it runs a program and its root is live
abbrev pub subject_by : Entry → Option ProgramOf → Option Root → Option Subject
subject_by e None r = None
subject_by e (Some p) None = None
subject_by e (Some p) (Some r) =
    Some (record { item = e; program = p; mode = mode_in r; starter = r.starter; performer = performer_by e p.by })

-- the item of a path, with what is asked of it
abbrev pub subject_of : State → Path → Option Subject
subject_of c path =
    option_and_then (λ e. subject_by e (program_in e.activity.work) (c.roots path.root)) (item_of c path)

-- the first refusal of tests, if one refuses
abbrev pub first_of : List (Option Refusal) → Option Refusal
first_of [] = None
first_of (test ∷ tests) = option_or test (first_of tests)

-- a test that refuses unless this is so
abbrev pub unless : Bool → Refusal → Option Refusal
unless passes refusal = if passes then None else Some refusal

-- ---- tokens

-- what stands between the quotes of an item token
abbrev pub between : List ℕ → List ℕ
between token = if nat_lt (length token) 2 then token else take (length token - 2) (drop 1 token)

-- the item that a token names; none where what is between its quotes spells no path, or one that has no item
abbrev pub IsNamed : State → List ℕ → Option Subject → Type 0
IsNamed c token None =
    SpellsNoPath (between token) ⊎ ((path : Path) × Spells (between token) path × (item_of c path ≡ None))
IsNamed c token (Some s) = (path : Path) × Spells (between token) path × (subject_of c path ≡ Some s)

-- ---- tests of a state

-- there is room for one more transaction, else FULL
abbrev pub full_test : State → Option Refusal
full_test c = unless (nat_lt c.transactions c.limit) (refused.Full c.limit)

-- there is a number for one more root, else FULL
abbrev pub number_test : State → Option Refusal
number_test c = unless (nat_lt (c.last_root + 1) (2 ^ 64)) (refused.Full c.limit)

-- who a name means: the latest declaration
abbrev pub person_of : State → Name → Option PersonDef
person_of c name = latest_person c.library name

-- the person is declared, else PERSON
abbrev pub person_test : State → Name → Option Refusal
person_test c name = unless (is_some (person_of c name)) (refused.Person name)

-- so is the one who completes an item; an agent has no name
abbrev pub who_test : State → Who → Option Refusal
who_test c (who.Person name) = person_test c name
who_test c (who.Agent take) = None

-- what a process name means: its newest template
abbrev pub newest_of : State → Name → Option Template
newest_of c process = option_and_then (λ place. slice_get (templates c) place) (newest_place c.library process)

-- the process is there, else PROCESS
abbrev pub process_test : State → Name → Option Refusal
process_test c process = unless (is_some (newest_of c process)) (refused.Process process)

-- ---- tests of what is written

-- places are counted from 1
abbrev pub value_at : ℕ → Refusal
value_at place = refused.Value (min (place + 1) (2 ^ 32 - 1))

-- what is written are settings, else VALUE, at the first that is wrong
abbrev pub value_refusal : Result (List Setting) ℕ → Option Refusal
value_refusal (Ok settings) = None
value_refusal (Err place) = Some (value_at place)

-- the test of what is written for these leaves
abbrev pub value_test : Leaves → Option NumberAt → List RawSetting → Option Refusal
value_test leaves rc written = value_refusal (outcome_by leaves rc written)

-- for the input of the process
abbrev pub input_test : List RawSetting → Option Template → Option Refusal
input_test written None = None
input_test written (Some t) = value_test (out-Graph t.graph).input None written

-- for the output of the item
abbrev pub outcome_test : Outcome → Subject → Option Refusal
outcome_test outcome s = value_test s.item.activity.output outcome.rc outcome.settings

-- a clock has at most this number of minutes, else VALUE
abbrev pub minutes_test : NumberAt → Option Refusal
minutes_test number = unless (nat_le number.size 2147483647) (value_at number.place)

-- it never goes back, else CLOCK
abbrev pub clock_test : State → ℕ → Option Refusal
clock_test c minutes = unless (nat_le c.clock minutes) (refused.Clock c.clock)

-- ---- tests of queues

-- there is a queue of that number, else QUEUE
abbrev pub queue_test : State → ℕ → Option Refusal
queue_test c number = unless (nat_le 1 number && nat_le number (length c.queues)) (refused.Queue (length c.queues))

-- it has a message, else EMPTY
abbrev pub message_test : State → ℕ → Option Refusal
message_test c number = unless (is_some (slice_get (messages_of c.queues number) 0)) (refused.Empty number)

-- ---- tests of roots

-- it is active
abbrev pub is_active : Mode → Bool
is_active Active = true
is_active Suspended = false
is_active Done = false
is_active Terminated = false

-- it is suspended
abbrev pub is_suspended : Mode → Bool
is_suspended Active = false
is_suspended Suspended = true
is_suspended Done = false
is_suspended Terminated = false

-- it is active or suspended
abbrev pub is_going : Mode → Bool
is_going Active = true
is_going Suspended = true
is_going Done = false
is_going Terminated = false

-- it is done or terminated
abbrev pub is_over : Mode → Bool
is_over Active = false
is_over Suspended = false
is_over Done = true
is_over Terminated = true

-- a root has one of these modes, else MODE
abbrev pub mode_test : (Mode → Bool) → Mode → Option Refusal
mode_test allowed mode = unless (allowed mode) (refused.Mode mode)

-- the root is live, else ROOT; then its mode
abbrev pub live_test : (Mode → Bool) → ℕ → Option Mode → Option Refusal
live_test allowed root None = Some (refused.Root root)
live_test allowed root (Some mode) = mode_test allowed mode

-- the test of a root by its mode
abbrev pub root_test : State → (Mode → Bool) → ℕ → Option Refusal
root_test c allowed root = live_test allowed root (option_map mode_in (c.roots root))

-- the messages of a root that are queued
abbrev pub queued : State → ℕ → ℕ
queued c root = min (count_of_root root c.queues) (2 ^ 64 - 1)

-- there is none, else QUEUED
abbrev pub queued_test : State → ℕ → Option Refusal
queued_test c root = unless (queued c root == 0) (refused.Queued (queued c root))

-- ---- tests of items

-- the item is there, else ITEM
abbrev pub item_test : List ℕ → Option Subject → Option Refusal
item_test token o = unless (is_some o) (refused.Item token)

-- a test of the item; it is passed where there is none, which the test before it refuses
abbrev pub on_item : (Subject → Option Refusal) → Option Subject → Option Refusal
on_item test None = None
on_item test (Some s) = test s

-- its phase, and who holds it
abbrev pub phase_in : Subject → Phase
phase_in s = phase_of (fate_of s.item.state) s.item.attempt

-- who holds the item
abbrev pub hold_in : Subject → Hold
hold_in s = hold_of s.item.state

-- a test of who may do what, as a refusal; OWNER says who holds the item
abbrev pub staff_refusal : Hold → Result (Unit {0}) StaffFault → Option Refusal
staff_refusal hold (Ok passed) = None
staff_refusal hold (Err (fault.State phase)) = Some (refused.State phase)
staff_refusal hold (Err fault.Owner) = Some (refused.Owner hold)
staff_refusal hold (Err (fault.Take take)) = Some (refused.Take take)
staff_refusal hold (Err fault.Eligible) = Some refused.Eligible

-- the test of who may do what with an item
abbrev pub staff_test : Subject → Result (Unit {0}) StaffFault → Option Refusal
staff_test s answer = staff_refusal (hold_in s) answer

-- the person may do the item
abbrev pub is_able : Option PersonDef → Subject → Bool
is_able None s = false
is_able (Some person) s = is_eligible person s.program s.starter s.performer

-- the item is ready or running, else STATE
abbrev pub open_test : Phase → Option Refusal
open_test phase.Ready = None
open_test phase.Running = None
open_test phase.Ended = Some (refused.State phase.Ended)

-- CLAIM: MODE, then STATE, ELIGIBLE
abbrev pub claim_test : Option PersonDef → Subject → Option Refusal
claim_test person s =
    first_of (mode_test is_active s.mode ∷ staff_test s (claim_answer (phase_in s) (is_able person s)) ∷ [])

-- RELEASE: MODE, then STATE, OWNER
abbrev pub release_test : Name → Subject → Option Refusal
release_test name s =
    first_of (mode_test is_going s.mode ∷ staff_test s (release_answer (phase_in s) (hold_in s) name) ∷ [])

-- TRANSFER: MODE, then STATE, OWNER, ELIGIBLE of the receiver
abbrev pub transfer_test : Name → Option PersonDef → Subject → Option Refusal
transfer_test name to s =
    first_of (mode_test is_going s.mode ∷ staff_test s (transfer_answer (phase_in s) (hold_in s) name (is_able to s))
    ∷ [])

-- TAKE: MODE, then STATE, ELIGIBLE
abbrev pub taking_test : Subject → Option Refusal
taking_test s = first_of (mode_test is_active s.mode ∷ staff_test s (taking_answer (phase_in s) s.program.manual) ∷ [])

-- DONE: MODE, then STATE, OWNER or TAKE
abbrev pub completing_test : Who → Subject → Option Refusal
completing_test by s =
    first_of (mode_test is_active s.mode ∷ staff_test s (done_answer (phase_in s) (hold_in s) by) ∷ [])

-- FORCE: MODE, then STATE
abbrev pub forcing_test : Subject → Option Refusal
forcing_test s = first_of (mode_test is_going s.mode ∷ open_test (phase_in s) ∷ [])

-- RESTART: MODE, then STATE
abbrev pub restart_test : Subject → Option Refusal
restart_test s =
    first_of (mode_test is_going s.mode ∷ unless (is_running (phase_in s)) (refused.State (phase_in s)) ∷ [])

-- ---- the tests of a command, in order

-- of one on an item: its people are declared, the item is there, it passes the test of the command, there is room
abbrev pub tests_on_item : State → Option Refusal → List ℕ → (Subject → Option Refusal) → Option Subject
    → Option Refusal
tests_on_item c people token test o = first_of (people ∷ item_test token o ∷ on_item test o ∷ full_test c ∷ [])

-- the item is the one that the token names
abbrev pub RefusesOnItem : State → Option Refusal → List ℕ → (Subject → Option Refusal) → Option Refusal → Type 0
RefusesOnItem c people token test refusal =
    (o : Option Subject) × IsNamed c token o × (refusal ≡ tests_on_item c people token test o)

-- the first rule that a text breaks, with the line of its least place; it has none exactly where it is accepted
abbrev pub IsRuleOf : State → List ℕ → Option Refusal → Type 0
IsRuleOf c text None = IsFaultless c.library text
IsRuleOf c text (Some refusal) =
    (rule : ℕ) × (place : ℕ) × IsTextRefused c.library text rule place
    × (refusal ≡ refused.Rule rule (line_at text place))

-- the first refusal of a command, or that it has none; of what makes no transaction nothing is told
abbrev pub IsFirstRefusal : State → Command → Option Refusal → Type 0
IsFirstRefusal c (asked.Import text) refusal =
    (rule : Option Refusal) × IsRuleOf c text rule × (refusal ≡ first_of (rule ∷ full_test c ∷ []))
IsFirstRefusal c (asked.Start process starter key written) refusal =
    refusal ≡ first_of (person_test c starter ∷ process_test c process ∷ input_test written (newest_of c process)
    ∷ full_test c ∷ number_test c ∷ [])
IsFirstRefusal c (asked.Turn queue) refusal =
    refusal ≡ first_of (queue_test c queue ∷ message_test c queue ∷ full_test c ∷ [])
IsFirstRefusal c asked.Drain refusal = ⊥
IsFirstRefusal c (asked.Claim token name) refusal =
    RefusesOnItem c (person_test c name) token (claim_test (person_of c name)) refusal
IsFirstRefusal c (asked.Release token name) refusal =
    RefusesOnItem c (person_test c name) token (release_test name) refusal
IsFirstRefusal c (asked.Transfer token from to) refusal =
    RefusesOnItem c (first_of (person_test c from ∷ person_test c to ∷ [])) token
    (transfer_test from (person_of c to)) refusal
IsFirstRefusal c (asked.Take token) refusal = RefusesOnItem c None token taking_test refusal
IsFirstRefusal c (asked.Done token by outcome) refusal =
    RefusesOnItem c (who_test c by) token (λ s. first_of (completing_test by s ∷ outcome_test outcome s ∷ [])) refusal
IsFirstRefusal c (asked.Force token outcome) refusal =
    RefusesOnItem c None token (λ s. first_of (forcing_test s ∷ outcome_test outcome s ∷ [])) refusal
IsFirstRefusal c (asked.Restart token) refusal = RefusesOnItem c None token restart_test refusal
IsFirstRefusal c (asked.Suspend root) refusal = refusal ≡ first_of (root_test c is_active root ∷ full_test c ∷ [])
IsFirstRefusal c (asked.Resume root) refusal = refusal ≡ first_of (root_test c is_suspended root ∷ full_test c ∷ [])
IsFirstRefusal c (asked.Terminate root) refusal = refusal ≡ first_of (root_test c is_going root ∷ full_test c ∷ [])
IsFirstRefusal c (asked.Delete root) refusal =
    refusal ≡ first_of (root_test c is_over root ∷ queued_test c root ∷ full_test c ∷ [])
IsFirstRefusal c (asked.Clock number) refusal =
    refusal ≡ first_of (minutes_test number ∷ clock_test c number.size ∷ full_test c ∷ [])
IsFirstRefusal c asked.Checkpoint refusal = ⊥
IsFirstRefusal c (asked.Ask query) refusal = ⊥

-- the live root that has the key of a START
abbrev pub same_root : State → Command → Option ℕ
same_root c (asked.Start process starter (Some key) written) = root_with_key key c.live
same_root c command = None

-- ---- its transaction

-- the number of the next root
abbrev pub next_root : State → ℕ
next_root c = c.last_root + 1

-- what a START takes from the library: the newest version of its process, and the settings that are written for its
-- input
pub record IsNewestFor (c : State) (process : Name) (written : List RawSetting) (version : ℕ)
    (settings : List Setting) : Type 0 where
  pub template : Template
  pub newest : newest_of c process ≡ Some template
  pub number : template.version ≡ version
  pub set : outcome_by (out-Graph template.graph).input None written ≡ Ok settings

-- the message stands at the front of this queue
abbrev pub IsFront : State → ℕ → Message → Type 0
IsFront c number message = (1 ≤ number) × (slice_get (messages_of c.queues number) 0 ≡ Some message)

-- a completion has the settings that its outcome writes for the output of the item
pub record IsSetFor (c : State) (path : Path) (outcome : Outcome) (settings : List Setting) : Type 0 where
  pub item : Entry
  pub there : item_of c path ≡ Some item
  pub set : outcome_by item.activity.output outcome.rc outcome.settings ≡ Ok settings

-- a TAKE has the number of the next take of the item
pub record IsNextTake (c : State) (path : Path) (take : ℕ) : Type 0 where
  pub item : Entry
  pub there : item_of c path ≡ Some item
  pub next : take ≡ next_take item.state

-- the transaction is the one that a command names in this state; what makes no transaction names none
abbrev pub IsFor : State → Command → Transaction → Type 0
IsFor c (asked.Import text) t = t ≡ made.Import text
IsFor c (asked.Start process starter key written) t =
    (version : ℕ) × (settings : List Setting) × IsNewestFor c process written version settings
    × (t ≡ made.Start (next_root c) process version starter key settings)
IsFor c (asked.Turn queue) t = (message : Message) × IsFront c queue message × (t ≡ made.Turn queue message)
IsFor c asked.Drain t = ⊥
IsFor c (asked.Claim token who) t = (path : Path) × Spells (between token) path × (t ≡ made.Claim path who)
IsFor c (asked.Release token who) t = (path : Path) × Spells (between token) path × (t ≡ made.Release path who)
IsFor c (asked.Transfer token who to) t = (path : Path) × Spells (between token) path × (t ≡ made.Transfer path who to)
IsFor c (asked.Take token) t =
    (path : Path) × (take : ℕ) × Spells (between token) path × IsNextTake c path take × (t ≡ made.Take path take)
IsFor c (asked.Done token who outcome) t =
    (path : Path) × (settings : List Setting) × Spells (between token) path × IsSetFor c path outcome settings
    × (t ≡ made.Done path who settings)
IsFor c (asked.Force token outcome) t =
    (path : Path) × (settings : List Setting) × Spells (between token) path × IsSetFor c path outcome settings
    × (t ≡ made.Force path settings)
IsFor c (asked.Restart token) t = (path : Path) × Spells (between token) path × (t ≡ made.Restart path)
IsFor c (asked.Suspend root) t = t ≡ made.Suspend root
IsFor c (asked.Resume root) t = t ≡ made.Resume root
IsFor c (asked.Terminate root) t = t ≡ made.Terminate root
IsFor c (asked.Delete root) t = t ≡ made.Delete root
IsFor c (asked.Clock minutes) t = t ≡ made.Clock minutes.size
IsFor c asked.Checkpoint t = ⊥
IsFor c (asked.Ask query) t = ⊥

-- the fate of an item's activity as the state shows it; it waits where there is no such item
abbrev pub fate_now : State → Path → Fate
fate_now c item = option_map_or (λ e. fate_of e.state) (item_of c item) fate.Waiting

-- what a reply names, by the states before and after its transaction: the number of processes that an Import adds, the
-- message
-- that a Turn takes, the take number of a Take, the fate that the activity of an item has then, the mode
abbrev pub IsNoteOf : State → Transaction → State → Note → Type 0
IsNoteOf c (made.Import text) c' n = n ≡ note.Imported (min (length (templates c') - length (templates c)) (2 ^ 32 - 1))
IsNoteOf c (made.Start root process version starter key settings) c' n = n ≡ note.Rooted root
IsNoteOf c (made.Turn queue message) c' n = n ≡ note.Turned queue message
IsNoteOf c (made.Claim item who) c' n = n ≡ note.Fated (fate_now c' item)
IsNoteOf c (made.Release item who) c' n = n ≡ note.Fated (fate_now c' item)
IsNoteOf c (made.Transfer item who to) c' n = n ≡ note.Fated (fate_now c' item)
IsNoteOf c (made.Take item take) c' n = n ≡ note.Taken take
IsNoteOf c (made.Done item who settings) c' n = n ≡ note.Fated (fate_now c' item)
IsNoteOf c (made.Force item settings) c' n = n ≡ note.Fated (fate_now c' item)
IsNoteOf c (made.Restart item) c' n = n ≡ note.Fated (fate_now c' item)
IsNoteOf c (made.Suspend root) c' n = n ≡ note.Moded mode.Suspended
IsNoteOf c (made.Resume root) c' n = n ≡ note.Moded mode.Active
IsNoteOf c (made.Terminate root) c' n = n ≡ note.Moded mode.Terminated
IsNoteOf c (made.Delete root) c' n = n ≡ note.Deleted
IsNoteOf c (made.Clock minutes) c' n = n ≡ note.Clocked minutes

-- ---- the verdict

-- it is the START of a live root, by its key; else it has a first refusal; else it gives its transaction
abbrev pub IsVerdict : State → Command → Verdict → Type 0
IsVerdict c command (verdict.Do t) = (same_root c command ≡ None) × IsFirstRefusal c command None × IsFor c command t
IsVerdict c command (verdict.Same root) = same_root c command ≡ Some root
IsVerdict c command (verdict.Refused refusal) = (same_root c command ≡ None) × IsFirstRefusal c command (Some refusal)
