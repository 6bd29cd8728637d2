-- Why a command is refused: its tests in their order, each a refusal or none, and the first refusal of them.
use Rattle.std.specs.Prelude.{◌≡◌, ◌⊎◌, ℕ, ◌+◌, ◌-◌, ◌^◌, ◌==◌, ◌&&◌, min, nat_lt, nat_le, Bool, true, false}
use Rattle.std.specs.Prelude.{if◌then◌else◌, Result, Ok, Err, Option, Some, None, is_some, option_map, option_and_then}
use Rattle.std.specs.Prelude.{List, [], ◌∷◌, length, take, drop, slice_get, bytes_eq}
use Rattle.std.specs.HashMap as hash
use Rattle.std.specs.Option.{option_or}
use Rattle.activity_states.specs.States.{fate_of, hold_of}
use Rattle.containers.specs.Settings.{outcome_by}
use Rattle.flow_model.specs.Paths.{Spells, SpellsNoPath}
use Rattle.flow_model.specs.declared.commands.Command.{Command}
use Rattle.flow_model.specs.declared.commands.Command.TheVariants as asked
use Rattle.flow_model.specs.declared.commands.Outcome.{Outcome}
use Rattle.flow_model.specs.declared.commands.RawSetting.{RawSetting}
use Rattle.flow_model.specs.declared.graphs.Graph.{out-Graph}
use Rattle.flow_model.specs.declared.graphs.Leaves.{Leaves}
use Rattle.flow_model.specs.declared.graphs.PersonDef.{PersonDef}
use Rattle.flow_model.specs.declared.graphs.Template.{Template}
use Rattle.flow_model.specs.declared.instances.Hold.{Hold}
use Rattle.flow_model.specs.declared.instances.Mode.{Mode}
use Rattle.flow_model.specs.declared.instances.Mode.TheVariants.{Active, Suspended, Done, Terminated}
use Rattle.flow_model.specs.declared.instances.Path.{Path}
use Rattle.flow_model.specs.declared.instances.Phase.{Phase}
use Rattle.flow_model.specs.declared.instances.Phase.TheVariants as phase
use Rattle.flow_model.specs.declared.instances.Who.{Who}
use Rattle.flow_model.specs.declared.instances.Who.TheVariants as who
use Rattle.flow_model.specs.declared.names.Name.{Name}
use Rattle.flow_model.specs.declared.transactions.Setting.{Setting}
use Rattle.flow_model.specs.declared.trees.NumberAt.{NumberAt}
use Rattle.navigator.specs.Items.{phase_of}
use Rattle.recover_queue.specs.Queues.{queue as messages_of, count_of_root}
use Rattle.staff_worklists.specs.Rights.{is_eligible, is_running, claim_answer, release_answer, transfer_answer}
use Rattle.staff_worklists.specs.Rights.{taking_answer, done_answer}
use Rattle.staff_worklists.specs.declared.rights.StaffFault.{StaffFault}
use Rattle.staff_worklists.specs.declared.rights.StaffFault.TheVariants as fault
use Rattle.process_rules.specs.Imports.{newest_place, latest_person}
use Rattle.template_check.specs.Judged.{line_at, IsFaultless, IsRefused as IsTextRefused}
use Rattle.flow_core.specs.Allowing.{Subject, subject_of, IsThere, IsKnown, mode_in}
use Rattle.flow_core.specs.Answers.{instance_of}
use Rattle.flow_core.specs.Driving.{templates, item_of}
use Rattle.flow_core.specs.declared.items.Found.{Found}
use Rattle.flow_core.specs.declared.refusals.Refusal.{Refusal}
use Rattle.flow_core.specs.declared.refusals.Refusal.TheVariants as refused
use Rattle.flow_core.specs.declared.refusals.Stop.{Stop}
use Rattle.flow_core.specs.declared.refusals.Stop.TheVariants.{Refused, NoMemory}
use Rattle.flow_core.specs.declared.state.Core.{Core}

-- the first refusal of tests, if one refuses
abbrev pub first_of : List (Option Refusal) → Option Refusal
first_of [] = None
first_of (test ∷ tests) = option_or test (first_of tests)

-- a test that refuses unless this is so
abbrev pub unless : Bool → Refusal → Option Refusal
unless passes refusal = if passes then None else Some refusal

-- ---- tokens

-- what stands between the quotes of an item token
abbrev pub between : List ℕ → List ℕ
between token = if nat_lt (length token) 2 then token else take (length token - 2) (drop 1 token)

-- the item that a token names; none where what is between its quotes spells no path, or one that has no item
abbrev pub IsNamed : Core → List ℕ → Option Subject → Type 0
IsNamed c token None =
    SpellsNoPath (between token) ⊎ ((path : Path) × Spells (between token) path × (item_of c path ≡ None))
IsNamed c token (Some s) = (path : Path) × Spells (between token) path × IsThere c path s

-- ---- tests of a state

-- there is room for one more transaction, else FULL
abbrev pub full_test : Core → Option Refusal
full_test c = unless (nat_lt c.number c.limit) (refused.Full c.limit)

-- there is a number for one more root, else FULL
abbrev pub number_test : Core → Option Refusal
number_test c = unless (nat_lt (c.roots + 1) (2 ^ 64)) (refused.Full c.limit)

-- who a name means: the latest declaration
abbrev pub person_of : Core → Name → Option PersonDef
person_of c name = latest_person c.store name

-- the person is declared, else PERSON
abbrev pub person_test : Core → Name → Option Refusal
person_test c name = unless (is_some (person_of c name)) (refused.Person name)

-- so is the one who completes an item; an agent has no name
abbrev pub who_test : Core → Who → Option Refusal
who_test c (who.Person name) = person_test c name
who_test c (who.Agent take) = None

-- what a process name means: its newest template
abbrev pub newest_of : Core → Name → Option Template
newest_of c process =
    option_and_then (λ place. slice_get (templates c) place) (newest_place c.store process)

-- the process is there, else PROCESS
abbrev pub process_test : Core → Name → Option Refusal
process_test c process = unless (is_some (newest_of c process)) (refused.Process process)

-- ---- tests of what is written

-- places are counted from 1
abbrev pub value_at : ℕ → Refusal
value_at place = refused.Value (min (place + 1) (2 ^ 32 - 1))

-- what is written are settings, else VALUE, at the first that is wrong
abbrev pub value_refusal : Result (List Setting) ℕ → Option Refusal
value_refusal (Ok settings) = None
value_refusal (Err place) = Some (value_at place)

abbrev pub value_test : Leaves → Option NumberAt → List RawSetting → Option Refusal
value_test leaves rc written = value_refusal (outcome_by leaves rc written)

-- for the input of the process
abbrev pub input_test : List RawSetting → Option Template → Option Refusal
input_test written None = None
input_test written (Some t) = value_test (out-Graph t.graph).input None written

-- for the output of the item
abbrev pub outcome_test : Outcome → Subject → Option Refusal
outcome_test outcome s = value_test s.item.activity.output outcome.rc outcome.settings

-- a clock has this many minutes at most, else VALUE
abbrev pub minutes_test : NumberAt → Option Refusal
minutes_test number = unless (nat_le number.size 2147483647) (value_at number.place)

-- it never goes back, else CLOCK
abbrev pub clock_test : Core → ℕ → Option Refusal
clock_test c minutes = unless (nat_le c.clock minutes) (refused.Clock c.clock)

-- ---- tests of queues

-- there is a queue of that number, else QUEUE
abbrev pub queue_test : Core → ℕ → Option Refusal
queue_test c number = unless (nat_le 1 number && nat_le number (length c.queues)) (refused.Queue (length c.queues))

-- it has a message, else EMPTY
abbrev pub message_test : Core → ℕ → Option Refusal
message_test c number = unless (is_some (slice_get (messages_of c.queues number) 0)) (refused.Empty number)

-- ---- tests of roots

abbrev pub is_active : Mode → Bool
is_active Active = true
is_active Suspended = false
is_active Done = false
is_active Terminated = false

abbrev pub is_suspended : Mode → Bool
is_suspended Active = false
is_suspended Suspended = true
is_suspended Done = false
is_suspended Terminated = false

-- it is active or suspended
abbrev pub is_going : Mode → Bool
is_going Active = true
is_going Suspended = true
is_going Done = false
is_going Terminated = false

-- it is done or terminated
abbrev pub is_over : Mode → Bool
is_over Active = false
is_over Suspended = false
is_over Done = true
is_over Terminated = true

-- a root has one of these modes, else MODE
abbrev pub mode_test : (Mode → Bool) → Mode → Option Refusal
mode_test allowed mode = unless (allowed mode) (refused.Mode mode)

-- the root is live, else ROOT; then its mode
abbrev pub live_test : (Mode → Bool) → ℕ → Option Mode → Option Refusal
live_test allowed root None = Some (refused.Root root)
live_test allowed root (Some mode) = mode_test allowed mode

abbrev pub root_test : Core → (Mode → Bool) → ℕ → Option Refusal
root_test c allowed root = live_test allowed root (option_map mode_in (instance_of c root))

-- the messages of a root that are queued
abbrev pub queued : Core → ℕ → ℕ
queued c root = min (count_of_root root c.queues) (2 ^ 64 - 1)

-- there is none, else QUEUED
abbrev pub queued_test : Core → ℕ → Option Refusal
queued_test c root = unless (queued c root == 0) (refused.Queued (queued c root))

-- ---- tests of items

-- the item is there, else ITEM
abbrev pub item_test : List ℕ → Option Subject → Option Refusal
item_test token o = unless (is_some o) (refused.Item token)

-- a test of the item; it is passed where there is none, which the test before it refuses
abbrev pub on_item : (Subject → Option Refusal) → Option Subject → Option Refusal
on_item test None = None
on_item test (Some s) = test s

-- its phase, and who holds it
abbrev pub phase_in : Subject → Phase
phase_in s = phase_of (fate_of s.item.state) s.item.attempt

abbrev pub hold_in : Subject → Hold
hold_in s = hold_of s.item.state

-- a test of who may do what, as a refusal; OWNER says who holds the item
abbrev pub staff_refusal : Hold → Result (Unit {0}) StaffFault → Option Refusal
staff_refusal hold (Ok passed) = None
staff_refusal hold (Err (fault.State phase)) = Some (refused.State phase)
staff_refusal hold (Err fault.Owner) = Some (refused.Owner hold)
staff_refusal hold (Err (fault.Take take)) = Some (refused.Take take)
staff_refusal hold (Err fault.Eligible) = Some refused.Eligible

abbrev pub staff_test : Subject → Result (Unit {0}) StaffFault → Option Refusal
staff_test s answer = staff_refusal (hold_in s) answer

-- the person may do the item
abbrev pub is_able : Option PersonDef → Subject → Bool
is_able None s = false
is_able (Some person) s = is_eligible person s.program s.starter s.performer

-- the item is ready or running, else STATE
abbrev pub open_test : Phase → Option Refusal
open_test phase.Ready = None
open_test phase.Running = None
open_test phase.Ended = Some (refused.State phase.Ended)

-- CLAIM: MODE, then STATE, ELIGIBLE
abbrev pub claim_test : Option PersonDef → Subject → Option Refusal
claim_test person s =
    first_of (mode_test is_active s.mode ∷ staff_test s (claim_answer (phase_in s) (is_able person s)) ∷ [])

-- RELEASE: MODE, then STATE, OWNER
abbrev pub release_test : Name → Subject → Option Refusal
release_test name s =
    first_of (mode_test is_going s.mode ∷ staff_test s (release_answer (phase_in s) (hold_in s) name) ∷ [])

-- TRANSFER: MODE, then STATE, OWNER, ELIGIBLE of the receiver
abbrev pub transfer_test : Name → Option PersonDef → Subject → Option Refusal
transfer_test name to s =
    first_of (mode_test is_going s.mode ∷ staff_test s (transfer_answer (phase_in s) (hold_in s) name (is_able to s))
    ∷ [])

-- TAKE: MODE, then STATE, ELIGIBLE
abbrev pub taking_test : Subject → Option Refusal
taking_test s = first_of (mode_test is_active s.mode ∷ staff_test s (taking_answer (phase_in s) s.program.manual) ∷ [])

-- DONE: MODE, then STATE, OWNER or TAKE
abbrev pub completing_test : Who → Subject → Option Refusal
completing_test by s =
    first_of (mode_test is_active s.mode ∷ staff_test s (done_answer (phase_in s) (hold_in s) by) ∷ [])

-- FORCE: MODE, then STATE
abbrev pub forcing_test : Subject → Option Refusal
forcing_test s = first_of (mode_test is_going s.mode ∷ open_test (phase_in s) ∷ [])

-- RESTART: MODE, then STATE
abbrev pub restart_test : Subject → Option Refusal
restart_test s =
    first_of (mode_test is_going s.mode ∷ unless (is_running (phase_in s)) (refused.State (phase_in s)) ∷ [])

-- ---- the tests of a command, in order

-- of one on an item: its people are declared, the item is there, it passes the test of the command, there is room
abbrev pub tests_on_item : Core → Option Refusal → List ℕ → (Subject → Option Refusal) → Option Subject → Option Refusal
tests_on_item c people token test o = first_of (people ∷ item_test token o ∷ on_item test o ∷ full_test c ∷ [])

-- the item is the one that the token names
abbrev pub RefusesOnItem : Core → Option Refusal → List ℕ → (Subject → Option Refusal) → Option Refusal → Type 0
RefusesOnItem c people token test refusal =
    (o : Option Subject) × IsNamed c token o × (refusal ≡ tests_on_item c people token test o)

-- the first rule that a text breaks, with the line of its least place; it has none exactly where it is accepted
abbrev pub IsRuleOf : Core → List ℕ → Option Refusal → Type 0
IsRuleOf c text None = IsFaultless c.store text
IsRuleOf c text (Some refusal) =
    (rule : ℕ) × (place : ℕ) × IsTextRefused c.store text rule place
    × (refusal ≡ refused.Rule rule (line_at text place))

-- the first refusal of a command, or that it has none; of what makes no transaction nothing is told
abbrev pub IsFirstRefusal : Core → Command → Option Refusal → Type 0
IsFirstRefusal c (asked.Import text) refusal =
    (rule : Option Refusal) × IsRuleOf c text rule × (refusal ≡ first_of (rule ∷ full_test c ∷ []))
IsFirstRefusal c (asked.Start process starter key written) refusal =
    refusal ≡ first_of (person_test c starter ∷ process_test c process ∷ input_test written (newest_of c process)
    ∷ full_test c ∷ number_test c ∷ [])
IsFirstRefusal c (asked.Turn queue) refusal =
    refusal ≡ first_of (queue_test c queue ∷ message_test c queue ∷ full_test c ∷ [])
IsFirstRefusal c asked.Drain refusal = ⊥
IsFirstRefusal c (asked.Claim token name) refusal =
    RefusesOnItem c (person_test c name) token (claim_test (person_of c name)) refusal
IsFirstRefusal c (asked.Release token name) refusal =
    RefusesOnItem c (person_test c name) token (release_test name) refusal
IsFirstRefusal c (asked.Transfer token from to) refusal =
    RefusesOnItem c (first_of (person_test c from ∷ person_test c to ∷ [])) token
    (transfer_test from (person_of c to)) refusal
IsFirstRefusal c (asked.Take token) refusal = RefusesOnItem c None token taking_test refusal
IsFirstRefusal c (asked.Done token by outcome) refusal =
    RefusesOnItem c (who_test c by) token (λ s. first_of (completing_test by s ∷ outcome_test outcome s ∷ [])) refusal
IsFirstRefusal c (asked.Force token outcome) refusal =
    RefusesOnItem c None token (λ s. first_of (forcing_test s ∷ outcome_test outcome s ∷ [])) refusal
IsFirstRefusal c (asked.Restart token) refusal = RefusesOnItem c None token restart_test refusal
IsFirstRefusal c (asked.Suspend root) refusal = refusal ≡ first_of (root_test c is_active root ∷ full_test c ∷ [])
IsFirstRefusal c (asked.Resume root) refusal = refusal ≡ first_of (root_test c is_suspended root ∷ full_test c ∷ [])
IsFirstRefusal c (asked.Terminate root) refusal = refusal ≡ first_of (root_test c is_going root ∷ full_test c ∷ [])
IsFirstRefusal c (asked.Delete root) refusal =
    refusal ≡ first_of (root_test c is_over root ∷ queued_test c root ∷ full_test c ∷ [])
IsFirstRefusal c (asked.Clock number) refusal =
    refusal ≡ first_of (minutes_test number ∷ clock_test c number.size ∷ full_test c ∷ [])
IsFirstRefusal c asked.Checkpoint refusal = ⊥
IsFirstRefusal c (asked.Ask query) refusal = ⊥

-- the live root that has the key of a START
abbrev pub same_root : Core → Command → Option ℕ
same_root c (asked.Start process starter (Some key) written) = hash.get_by (λ k. bytes_eq key k.items) c.keys
same_root c command = None

-- ---- how a call answers

-- a stop is by this refusal, if it isn't by want of memory
abbrev pub IsStop : Option Refusal → Stop → Type 0
IsStop refusal (Refused r) = refusal ≡ Some r
IsStop refusal NoMemory = Unit {0}

-- it stops with a refusal exactly where there is one; of want of memory nothing is said
abbrev pub StopsBy : {T : Type 0} → Option Refusal → Result T Stop → Type 0
StopsBy refusal (Ok x) = refusal ≡ None
StopsBy refusal (Err stop) = IsStop refusal stop

-- so it is by a refusal of which this is so
abbrev pub StopsAs : {T : Type 0} → (Option Refusal → Type 0) → Result T Stop → Type 0
StopsAs P (Ok x) = P None
StopsAs P (Err (Refused r)) = P (Some r)
StopsAs P (Err NoMemory) = Unit {0}

-- what was found of a token: the path that it spells with the item there, or nothing
abbrev pub IsFound : Core → List ℕ → Option Found → Type 0
IsFound c token None = IsNamed c token None
IsFound c token (Some f) = Spells (between token) f.path × IsKnown c f.path f.known

abbrev pub subject_in : Option Found → Option Subject
subject_in o = option_map (λ f. subject_of f.known) o
