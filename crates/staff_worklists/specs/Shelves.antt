-- On which shelf an open item stands, and which shelves a person sees.
use Rattle.std.specs.Prelude.{◌≡◌, ℕ, Bool, true, false, ◌||◌, ◌&&◌, if◌then◌else◌, Option, Some, None, unwrap_or, List}
use Rattle.std.specs.Prelude.{◌∷◌, map}
use Rattle.std.specs.List.{list_any}
use Rattle.flow_model.specs.declared.graphs.DoneBy.{DoneBy}
use Rattle.flow_model.specs.declared.graphs.DoneBy.TheVariants as by
use Rattle.flow_model.specs.declared.graphs.PersonDef.{PersonDef}
use Rattle.flow_model.specs.declared.instances.Hold.{Hold}
use Rattle.flow_model.specs.declared.instances.Hold.TheVariants as held
use Rattle.flow_model.specs.declared.instances.ItemLine.{ItemLine}
use Rattle.staff_worklists.specs.Rights.{is_eligible, holds_it}
use Rattle.staff_worklists.specs.SameShelf.{shelf_eq}
use Rattle.staff_worklists.specs.declared.worklists.Shelf.{Shelf}
use Rattle.staff_worklists.specs.declared.worklists.Shelf.TheVariants.{Role, Person, Holder}

-- the shelf of those who may claim: of the role, or of the person; without a performer the starter stands in
abbrev pub claim_shelf : DoneBy → List ℕ → Option (List ℕ) → Shelf
claim_shelf (by.Role role) starter performer = Role role
claim_shelf (by.Person name) starter performer = Person name
claim_shelf by.Starter starter performer = Person starter
claim_shelf (by.PerformerOf place) starter performer = Person (unwrap_or performer starter)

-- held by a person: the holder's shelf; held by an agent: none; else that of those who may claim, if it is manual
abbrev pub shelf_by : Hold → ItemLine → Option Shelf
shelf_by (held.Person holder) line = Some (Holder holder)
shelf_by (held.Agent take) line = None
shelf_by held.Nobody line = if line.program.manual then Some
    (claim_shelf line.program.by line.starter line.performer) else None

-- the shelf on which an item stands
abbrev pub shelf_for : ItemLine → Option Shelf
shelf_for line = shelf_by line.hold line

-- the shelves that a person sees: what is theirs to claim, what they hold, and what their roles may claim
abbrev pub shelves_of : PersonDef → List Shelf
shelves_of person = Person person.name ∷ Holder person.name ∷ map (λ role. Role role) person.roles

-- an item is seen by a person who sees its shelf
abbrev pub sees : PersonDef → Option Shelf → Bool
sees person None = false
sees person (Some shelf) = list_any (λ seen. shelf_eq seen shelf) (shelves_of person)

-- a person holds the item
abbrev pub is_held : Hold → Bool
is_held held.Nobody = false
is_held (held.Person holder) = true
is_held (held.Agent take) = false

-- nobody holds the item
abbrev pub is_free : Hold → Bool
is_free held.Nobody = true
is_free (held.Person holder) = false
is_free (held.Agent take) = false

-- a person sees an item exactly where the person holds it, or nobody does and the person is eligible
abbrev pub IsSeenWhereAllowed : Type 0
IsSeenWhereAllowed = (person : PersonDef) (line : ItemLine)
    → sees person (shelf_for line) ≡ (holds_it line.hold person.name ||
    (is_free line.hold && is_eligible person line.program line.starter line.performer))
