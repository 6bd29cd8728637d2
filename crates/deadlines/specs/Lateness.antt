-- Which of the open items are late, by how many minutes, and who is to be notified of each.
use Rattle.std.specs.Prelude.{◌≡◌, ℕ, ◌+◌, ◌-◌, ◌<◌, nat_lt, Bool, if◌then◌else◌, Option, Some, None, option_map}
use Rattle.std.specs.Prelude.{option_and_then, List, [], ◌∷◌, map, length, bytes_eq}
use Rattle.std.specs.Option.{option_or}
use Rattle.std.specs.List.{filter, filter_map}
use Rattle.std.specs.List.Sorted.{IsStrictlySortedBy}
use Rattle.std.specs.Map.{lookup, keys_of}
use Rattle.std.specs.Ordering.{nat_cmp}
use Rattle.std.specs.Cmp.Lexicographic.{slice_cmp}
use Rattle.flow_model.specs.declared.graphs.Library.{Library}
use Rattle.flow_model.specs.declared.graphs.PersonDef.{PersonDef}
use Rattle.flow_model.specs.declared.instances.Hold.{Hold}
use Rattle.flow_model.specs.declared.instances.Hold.TheVariants.{Nobody, Person, Agent}
use Rattle.flow_model.specs.declared.names.Name.{Name}
use Rattle.staff_worklists.specs.Rights.{is_eligible}
use Rattle.flow_core.specs.OpenItems.{told_of, AreOpen}
use Rattle.flow_core.specs.declared.open_items.OpenItem.{OpenItem}
use Rattle.flow_core.specs.declared.state.Core.{Core}
use Rattle.deadlines.specs.declared.late.Late.{Late}

-- ---- one item

-- the item is late by a minute at least, and somebody is to be notified of it
abbrev pub IsNotice : Late → Type 0
IsNotice late = (0 < late.minutes) × (0 < length late.notify)

-- by how many minutes the clock is beyond a time, if it is
abbrev pub minutes_beyond : ℕ → ℕ → Option ℕ
minutes_beyond clock time = if nat_lt time clock then Some (clock - time) else None

-- by how many minutes an item is late that became ready at a time and expires after this many minutes, if it ever does
abbrev pub minutes_late : ℕ → ℕ → Option ℕ → Option ℕ
minutes_late clock since expires = option_and_then (λ minutes. minutes_beyond clock (since + minutes)) expires

-- ---- who is to be notified

-- people by their names, in byte order
abbrev pub People : Type 0
People = List (List ℕ × PersonDef)

-- the latest of these declarations of a name
abbrev pub latest : List PersonDef → List ℕ → Option PersonDef
latest [] name = None
latest (person ∷ people) name = option_or (latest people name) (if bytes_eq person.name name then Some person else None)

-- those whom a library declares, each by the latest declaration of the name
abbrev pub AreDeclared : Library → People → Type 0
AreDeclared library people = IsStrictlySortedBy (slice_cmp nat_cmp) (keys_of people)
    × ((name : List ℕ) → lookup (bytes_eq name) people ≡ latest library.people name)

-- the person may do the item
abbrev pub may_do : OpenItem → PersonDef → Bool
may_do o person = is_eligible person o.program.now o.starter.now (option_map (λ name. name.now) o.performer)

-- those who may do an item
abbrev pub able : People → OpenItem → List Name
able people o = map (λ e. e.1.name) (filter (λ e. may_do o e.1) people)

-- these people, or the starter where there is none
abbrev pub these_or : Name → List Name → List Name
these_or starter [] = starter ∷ []
these_or starter (name ∷ names) = name ∷ names

-- the person who holds the item; where nobody does, those who may do it; the starter where there is none of them or an
-- agent holds it
abbrev pub notified_by : Hold → List Name → Name → List Name
notified_by Nobody names starter = these_or starter names
notified_by (Person holder) names starter = holder ∷ []
notified_by (Agent take) names starter = starter ∷ []

-- ---- all items

-- what is said of an open item, if it is late
abbrev pub late_of : ℕ → People → OpenItem → Option Late
late_of clock people o = option_map (λ minutes.
    record { item = o.item; minutes = minutes; notify = notified_by o.hold.now (able people o) o.starter.now })
    (minutes_late clock o.since o.program.now.expires)

-- exactly the late ones of the items that are open, in their order
abbrev pub AreOverdue : Core → List Late → Type 0
AreOverdue c lates =
    (people : People) × AreDeclared c.store people
    × (opens : List OpenItem) × AreOpen c (map told_of opens)
    × (lates ≡ filter_map (late_of c.clock people) opens)

-- what is overdue goes by the clock, the live roots and the library of a state alone
abbrev pub GoesByTheState : Type 0
GoesByTheState = (c c' : Core) (lates : List Late) → c'.clock ≡ c.clock → c'.live_roots ≡ c.live_roots
    → c'.store ≡ c.store → AreOverdue c lates → AreOverdue c' lates
