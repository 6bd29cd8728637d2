-- Who may do an item of those in a map, and that each late item has somebody to be notified of it.
use Rattle.std.proofs.Common.{◌≡◌, ℕ, ◌+◌, ◌-◌, ◌<◌, List, [], ◌∷◌, ◌++◌, Bool, true, false, cond, Option, Some, None, refl, sym, ap, ◌∙◌, length, nat_lt, IfSome, arith}
use Rattle.std.specs.List.{All, filter_map, cons_option}
use Rattle.std.specs.Borrow.{Bor}
use Rattle.std.specs.Option.{option_map}
use Rattle.std.proofs.lemmas.Bool.{ltb-true}
use Rattle.std.proofs.lemmas.List.{append-nil}
use Rattle.std.proofs.lemmas.List.Elements.{All-nil, All-cons, filter_map-append}
use Rattle.flow_model.specs.declared.graphs.PersonDef.{PersonDef}
use Rattle.flow_model.specs.declared.instances.Hold.{Hold}
use Rattle.flow_model.specs.declared.instances.Hold.TheVariants.{Nobody, Person, Agent}
use Rattle.flow_model.specs.declared.instances.Path.{Path}
use Rattle.flow_model.specs.declared.names.Name.{Name}
use Rattle.flow_core.specs.declared.open_items.OpenItem.{OpenItem}
use Rattle.deadlines.specs.declared.late.Late.{Late}
use Rattle.deadlines.specs.Lateness.{IsNotice, minutes_late, People, able, these_or, notified_by, late_of}
use Rattle.deadlines.specs.Rolls.{entries_read}

-- ---- those who may do an item

-- those who are left give the rest of the names
abbrev pub AreLeft : OpenItem → List (Bor (List ℕ) × Bor PersonDef) → List (Bor (List ℕ) × Bor PersonDef) → List Name → Type 0
AreLeft o all left names = names ++ able (entries_read left) o ≡ able (entries_read all) o

-- ---- what is said

module _ {X Y : Type 0} (f : X → Option Y) (xs : List X) (x : X) (found : List Y) where
  -- the next item is late
  pub one_late : (y : Y) → found ≡ filter_map f xs → Some y ≡ f x → found ++ y ∷ [] ≡ filter_map f (xs ++ x ∷ [])
  one_late y before is = ap (λ l. l ++ y ∷ []) before ∙ ap (λ o. filter_map f xs ++ cons_option o []) is ∙ sym (filter_map-append f xs (x ∷ []))

  -- it isn't
  pub none_late : found ≡ filter_map f xs → None ≡ f x → found ≡ filter_map f (xs ++ x ∷ [])
  none_late before is = before ∙ sym (append-nil (filter_map f xs)) ∙ ap (λ o. filter_map f xs ++ cons_option o []) is ∙ sym (filter_map-append f xs (x ∷ []))

some_named : (starter : Name) (names : List Name) → 0 < length (these_or starter names)
some_named starter [] = omega arith
some_named starter (name ∷ names) = omega arith

somebody : (hold : Hold) (names : List Name) (starter : Name) → 0 < length (notified_by hold names starter)
somebody Nobody names starter = some_named starter names
somebody (Person holder) names starter = omega arith
somebody (Agent take) names starter = omega arith

-- what is given is beyond by a minute at least
beyond_by : (clock time : ℕ) (b : Bool) → nat_lt time clock ≡ b → IfSome (cond b (Some (clock - time)) None) (λ minutes. 0 < minutes)
beyond_by clock time true is = let beyond : time < clock = ltb-true time clock is in omega arith
beyond_by clock time false is = tt

minutes_positive : (clock since : ℕ) (expires : Option ℕ) → IfSome (minutes_late clock since expires) (λ minutes. 0 < minutes)
minutes_positive clock since None = tt
minutes_positive clock since (Some minutes) = beyond_by clock (since + minutes) (nat_lt (since + minutes) clock) refl

put : (item : Path) (notify : List Name) (minutes : Option ℕ) (lates : List Late) → 0 < length notify → IfSome minutes (λ m. 0 < m) → All IsNotice lates → All IsNotice (cons_option (option_map (λ m. record { item = item; minutes = m; notify = notify }) minutes) lates)
put item notify None lates some positive rest = rest
put item notify (Some m) lates some positive rest = All-cons IsNotice (record { item = item; minutes = m; notify = notify }) lates (positive, some) rest

pub notices : (clock : ℕ) (people : People) (opens : List OpenItem) → All IsNotice (filter_map (late_of clock people) opens)
notices clock people [] = All-nil IsNotice
notices clock people (o ∷ opens) =
    put o.item (notified_by o.hold.now (able people o) o.starter.now) (minutes_late clock o.since o.program.now.expires) (filter_map (late_of clock people) opens)
    (somebody o.hold.now (able people o) o.starter.now) (minutes_positive clock o.since o.program.now.expires) (notices clock people opens)
