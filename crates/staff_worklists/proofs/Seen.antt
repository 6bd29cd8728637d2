-- Which shelves a person sees, against who may do what.
use Rattle.std.proofs.Common.{◌≡◌, ℕ, List, [], ◌∷◌, Bool, true, false, ◌||◌, ◌&&◌, if◌then◌else◌, Option, Some, None, map, refl, ap, ◌∙◌}
use Rattle.std.specs.Option.{unwrap_or}
use Rattle.std.specs.List.{list_any}
use Rattle.std.specs.Str.{bytes_eq}
use Rattle.std.specs.Cmp.Lexicographic.{nat_list_eq_equiv}
use Rattle.flow_model.specs.declared.graphs.DoneBy.{DoneBy}
use Rattle.flow_model.specs.declared.graphs.DoneBy.TheVariants as by
use Rattle.flow_model.specs.declared.graphs.PersonDef.{PersonDef}
use Rattle.flow_model.specs.declared.instances.Hold.{Hold}
use Rattle.flow_model.specs.declared.instances.Hold.TheVariants as held
use Rattle.flow_model.specs.declared.instances.ItemLine.{ItemLine}
use Rattle.staff_worklists.specs.Rights.{is_meant, is_eligible, holds_it}
use Rattle.staff_worklists.specs.SameShelf.{shelf_eq}
use Rattle.staff_worklists.specs.declared.worklists.Shelf.TheVariants.{Role, Person, Holder}
use Rattle.staff_worklists.specs.Shelves.{claim_shelf, shelf_by, sees, is_free, IsSeenWhereAllowed}

or_false : (b : Bool) → (b || false) ≡ b
or_false true = refl
or_false false = refl

no_person_shelf : (n : List ℕ) (roles : List (List ℕ)) → list_any (λ s. shelf_eq s (Person n)) (map (λ role. Role role) roles) ≡ false
no_person_shelf n [] = refl
no_person_shelf n (role ∷ roles) = no_person_shelf n roles

no_holder_shelf : (n : List ℕ) (roles : List (List ℕ)) → list_any (λ s. shelf_eq s (Holder n)) (map (λ role. Role role) roles) ≡ false
no_holder_shelf n [] = refl
no_holder_shelf n (role ∷ roles) = no_holder_shelf n roles

role_shelf : (role : List ℕ) (roles : List (List ℕ)) → list_any (λ s. shelf_eq s (Role role)) (map (λ own. Role own) roles) ≡ list_any (λ own. bytes_eq own role) roles
role_shelf role [] = refl
role_shelf role (own ∷ roles) = ap (λ b. bytes_eq own role || b) (role_shelf role roles)

person_shelf : (person : PersonDef) (n : List ℕ) → sees person (Some (Person n)) ≡ bytes_eq person.name n
person_shelf person n = ap (λ b. bytes_eq person.name n || b) (no_person_shelf n person.roles) ∙ or_false (bytes_eq person.name n)

free_seen : (person : PersonDef) (manual : Bool) (d : DoneBy) (starter : List ℕ) (performer : Option (List ℕ))
    → sees person (if manual then Some (claim_shelf d starter performer) else None) ≡ (manual && is_meant person d starter performer)
free_seen person false d starter performer = refl
free_seen person true (by.Role role) starter performer = role_shelf role person.roles
free_seen person true (by.Person name) starter performer = person_shelf person name
free_seen person true by.Starter starter performer = person_shelf person starter
free_seen person true (by.PerformerOf place) starter performer = person_shelf person (unwrap_or performer starter)

seen_by : (person : PersonDef) (hold : Hold) (line : ItemLine)
    → sees person (shelf_by hold line) ≡ (holds_it hold person.name || (is_free hold && is_eligible person line.program line.starter line.performer))
seen_by person held.Nobody line = free_seen person line.program.manual line.program.by line.starter line.performer
seen_by person (held.Person holder) line =
    ap (λ b. bytes_eq person.name holder || b) (no_holder_shelf holder person.roles)
    ∙ ap (λ b. b || false) (nat_list_eq_equiv.symm person.name holder)
seen_by person (held.Agent take) line = refl

pub seen_where_allowed : IsSeenWhereAllowed
seen_where_allowed person line = seen_by person line.hold line
