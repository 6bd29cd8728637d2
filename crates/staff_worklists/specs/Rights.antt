-- Who may do what: who is eligible, and the first refusal of each command on an item.
use Rattle.std.specs.Prelude.{ℕ, ◌==◌, Bool, true, false, not, ◌&&◌, if◌then◌else◌, Option, unwrap_or, Result, Ok, Err}
use Rattle.std.specs.Prelude.{List, bytes_eq}
use Rattle.std.specs.List.{list_any}
use Rattle.flow_model.specs.declared.graphs.DoneBy.{DoneBy}
use Rattle.flow_model.specs.declared.graphs.DoneBy.TheVariants as by
use Rattle.flow_model.specs.declared.graphs.PersonDef.{PersonDef}
use Rattle.flow_model.specs.declared.graphs.Program.{Program}
use Rattle.flow_model.specs.declared.instances.Hold.{Hold}
use Rattle.flow_model.specs.declared.instances.Hold.TheVariants as held
use Rattle.flow_model.specs.declared.instances.Phase.{Phase}
use Rattle.flow_model.specs.declared.instances.Phase.TheVariants as phase
use Rattle.flow_model.specs.declared.instances.Who.{Who}
use Rattle.flow_model.specs.declared.instances.Who.TheVariants as who
use Rattle.staff_worklists.specs.declared.rights.StaffFault.{StaffFault}
use Rattle.staff_worklists.specs.declared.rights.StaffFault.TheVariants.{State, Owner, Take, Eligible}

-- one of the person's roles is this role
abbrev pub has_role : PersonDef → List ℕ → Bool
has_role person role = list_any (λ own. bytes_eq own role) person.roles

-- DONE_BY allows the person; without a performer the starter stands in
abbrev pub is_meant : PersonDef → DoneBy → List ℕ → Option (List ℕ) → Bool
is_meant person (by.Role role) starter performer = has_role person role
is_meant person (by.Person name) starter performer = bytes_eq person.name name
is_meant person by.Starter starter performer = bytes_eq person.name starter
is_meant person (by.PerformerOf place) starter performer = bytes_eq person.name (unwrap_or performer starter)

-- the item is manual, and its DONE_BY allows the person
abbrev pub is_eligible : PersonDef → Program → List ℕ → Option (List ℕ) → Bool
is_eligible person program starter performer = program.manual && is_meant person program.by starter performer

-- ---- the tests of commands, each the first refusal in its order

-- the item is ready
abbrev pub is_ready : Phase → Bool
is_ready phase.Ready = true
is_ready phase.Running = false
is_ready phase.Ended = false

-- the item is running
abbrev pub is_running : Phase → Bool
is_running phase.Ready = false
is_running phase.Running = true
is_running phase.Ended = false

-- the person holds the item
abbrev pub holds_it : Hold → List ℕ → Bool
holds_it held.Nobody name = false
holds_it (held.Person holder) name = bytes_eq holder name
holds_it (held.Agent take) name = false

-- the refusal of an agent with this take number: the number under which the item is held, else 0
abbrev pub take_answer : Hold → ℕ → Result (Unit {0}) StaffFault
take_answer held.Nobody take = Err (Take 0)
take_answer (held.Person holder) take = Err (Take 0)
take_answer (held.Agent own) take = if own == take then Ok tt else Err (Take own)

-- the item is held by the person, else Owner
abbrev pub owner_answer : Hold → List ℕ → Result (Unit {0}) StaffFault
owner_answer hold name = if holds_it hold name then Ok tt else Err Owner

-- one who is able, else Eligible
abbrev pub able_answer : Bool → Result (Unit {0}) StaffFault
able_answer is_able = if is_able then Ok tt else Err Eligible

-- CLAIM: ready, else State; able, else Eligible
abbrev pub claim_answer : Phase → Bool → Result (Unit {0}) StaffFault
claim_answer phase is_able = if is_ready phase then able_answer is_able else Err (State phase)

-- RELEASE: running, else State; held by the person, else Owner
abbrev pub release_answer : Phase → Hold → List ℕ → Result (Unit {0}) StaffFault
release_answer phase hold name = if is_running phase then owner_answer hold name else Err (State phase)

-- TRANSFER: as RELEASE; then the receiver is able, else Eligible
abbrev pub transfer_answer : Phase → Hold → List ℕ → Bool → Result (Unit {0}) StaffFault
transfer_answer phase hold name is_able =
    if is_running phase then (if holds_it hold name then able_answer is_able else Err Owner) else Err (State phase)

-- TAKE: ready, else State; not manual, else Eligible
abbrev pub taking_answer : Phase → Bool → Result (Unit {0}) StaffFault
taking_answer phase manual = claim_answer phase (not manual)

-- a person must hold the item, an agent its take number
abbrev pub who_answer : Hold → Who → Result (Unit {0}) StaffFault
who_answer hold (who.Person name) = owner_answer hold name
who_answer hold (who.Agent take) = take_answer hold take

-- DONE: running, else State; held by who completes it, else Owner or Take
abbrev pub done_answer : Phase → Hold → Who → Result (Unit {0}) StaffFault
done_answer phase hold who = if is_running phase then who_answer hold who else Err (State phase)
