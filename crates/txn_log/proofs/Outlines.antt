-- What the outlines of two slots tell of the store.
use Rattle.std.proofs.Common.{◌≡◌, Bool, true, false, ◌==◌, nat_lt, ℕ, List, [], Some, refl, sym, ap, ◌∙◌, subst, Result, Ok, Err, IfOk, IfErr}
use Rattle.flow_disk.specs.declared.disk.Slot.{Slot}
use Rattle.flow_disk.specs.declared.disk.Slot.TheVariants.{A, B}
use Rattle.flow_disk.specs.Images.{Image, bytes_in, opposite}
use Rattle.txn_log.specs.Causes.{IsCause, IsOutside}
use Rattle.txn_log.specs.declared.header.Header.{Header}
use Rattle.txn_log.specs.declared.judged.Body.{Body}
use Rattle.txn_log.specs.declared.outline.Outline.{Outline}
use Rattle.txn_log.specs.declared.stops.LogStop.{LogStop}
use Rattle.txn_log.specs.declared.stops.LogStop.TheVariants.{Unmade as NothingThere, Made, Foreign as ForeignAt, Damaged as DamagedPlace, StoreFault, NoMemory}
use Rattle.txn_log.specs.Opening.{IsChoice, IsRefusal, IsVerdict, slot_in}
use Rattle.txn_log.specs.Outlines.{outline_of, bare_state}
use Rattle.txn_log.specs.Stored.{SlotState, Unmade, Foreign, Damaged, Good, IsGoodState, slot_state}
use Rattle.txn_log.specs.Stores.{StoreState, NoStore, ForeignIn, DamagedIn, Counts, newer, judged_store, store_of}
use Rattle.txn_log.proofs.StoreStates.{counts_good}

-- a store whose slot that counts has no payload
abbrev bare : StoreState → StoreState
bare NoStore = NoStore
bare (ForeignIn slot) = ForeignIn slot
bare (DamagedIn slot place) = DamagedIn slot place
bare (Counts slot h ps e) = Counts slot h [] e

bare_newer : (same later : Bool) (h k : Header) (ps qs : List (List ℕ)) (e f : ℕ) → newer same later h [] e k [] f ≡ bare (newer same later h ps e k qs f)
bare_newer true later h k ps qs e f = refl
bare_newer false true h k ps qs e f = refl
bare_newer false false h k ps qs e f = refl

bare_store : (a b : SlotState) → judged_store (bare_state (outline_of a)) (bare_state (outline_of b)) ≡ bare (judged_store a b)
bare_store Foreign b = refl
bare_store Unmade Foreign = refl
bare_store Unmade (Damaged p) = refl
bare_store Unmade Unmade = refl
bare_store Unmade (Good k qs f) = refl
bare_store (Damaged p) Foreign = refl
bare_store (Damaged p) (Damaged q) = refl
bare_store (Damaged p) Unmade = refl
bare_store (Damaged p) (Good k qs f) = refl
bare_store (Good h ps e) Foreign = refl
bare_store (Good h ps e) (Damaged p) = refl
bare_store (Good h ps e) Unmade = refl
bare_store (Good h ps e) (Good k qs f) = bare_newer (h.generation == k.generation) (nat_lt k.generation h.generation) h k ps qs e f

bare_none : (s : StoreState) → bare s ≡ NoStore → s ≡ NoStore
bare_none NoStore is = refl
bare_none (ForeignIn slot) is = absurd (cc)
bare_none (DamagedIn slot place) is = absurd (cc)
bare_none (Counts slot h ps e) is = absurd (cc)

bare_foreign : (s : StoreState) (at : Slot) → bare s ≡ ForeignIn at → s ≡ ForeignIn at
bare_foreign NoStore at is = absurd (cc)
bare_foreign (ForeignIn slot) at is = is
bare_foreign (DamagedIn slot place) at is = absurd (cc)
bare_foreign (Counts slot h ps e) at is = absurd (cc)

bare_damaged : (s : StoreState) (at : Slot) (p : ℕ) → bare s ≡ DamagedIn at p → s ≡ DamagedIn at p
bare_damaged NoStore at p is = absurd (cc)
bare_damaged (ForeignIn slot) at p is = absurd (cc)
bare_damaged (DamagedIn slot place) at p is = is
bare_damaged (Counts slot h ps e) at p is = absurd (cc)

bare_slot : (s : StoreState) → slot_in (bare s) ≡ slot_in s
bare_slot NoStore = refl
bare_slot (ForeignIn slot) = refl
bare_slot (DamagedIn slot place) = refl
bare_slot (Counts slot h ps e) = refl

bare_verdict : (stop : LogStop) (s : StoreState) → IsVerdict stop (bare s) → IsVerdict stop s
bare_verdict NothingThere s is = bare_none s is
bare_verdict Made s is = absurd is
bare_verdict (ForeignAt slot) s is = bare_foreign s slot is
bare_verdict (DamagedPlace slot place) s is = bare_damaged s slot place is
bare_verdict StoreFault s is = absurd is
bare_verdict NoMemory s is = absurd is

bare_choice : (r : Result Slot LogStop) (s : StoreState) → IsChoice r (bare s) → IsChoice r s
bare_choice (Ok slot) s is = sym (bare_slot s) ∙ is
bare_choice (Err stop) s is = bare_verdict stop s is

-- the choice by two outlines is the choice by the slots
pub outlined_choice : (r : Result Slot LogStop) (image : Image) → IsChoice r (judged_store (bare_state (outline_of (slot_state image.a))) (bare_state (outline_of (slot_state image.b)))) → IsChoice r (store_of image)
outlined_choice r image is = bare_choice r (store_of image) (subst (IsChoice r) (bare_store (slot_state image.a) (slot_state image.b)) is)

-- the slot that counts has a header, payloads and an end
pub some_counts : (slot : Slot) (s : StoreState) → slot_in s ≡ Some slot → (h : Header) × (ps : List (List ℕ)) × (e : ℕ) × (s ≡ Counts slot h ps e)
some_counts slot NoStore is = absurd (cc)
some_counts slot (ForeignIn at) is = absurd (cc)
some_counts slot (DamagedIn at place) is = absurd (cc)
some_counts slot (Counts at h ps e) is = let same : at ≡ slot = cc in (h, ps, e, ap (λ (s : Slot). Counts s h ps e) same)

same_body : (slot : Slot) (h k : Header) (ps qs : List (List ℕ)) (e f : ℕ) → Good h ps e ≡ Good k qs f → Counts slot h ps e ≡ Counts slot k qs f
same_body slot h k ps qs e f is = cc

-- the slot that counts has the header, the payloads and the end that its bytes stand for
pub counts_body : (slot : Slot) (image : Image) (h : Header) (ps : List (List ℕ)) (e : ℕ) → slot_in (store_of image) ≡ Some slot → slot_state (bytes_in image slot) ≡ Good h ps e → store_of image ≡ Counts slot h ps e
counts_body slot image h ps e counts good =
    let some = some_counts slot (store_of image) counts in
    some.3 ∙ same_body slot some.0 h some.1 ps some.2 e (sym (counts_good slot image some.0 some.1 some.2 some.3) ∙ good)

pub counts_is_good : (slot : Slot) (image : Image) → slot_in (store_of image) ≡ Some slot → IsGoodState (slot_state (bytes_in image slot))
counts_is_good slot image counts =
    let some = some_counts slot (store_of image) counts in
    (some.0, some.1, some.2, counts_good slot image some.0 some.1 some.2 some.3)

pub verdict_refused : (stop : LogStop) (s : StoreState) → IsVerdict stop s → IsRefusal stop s
verdict_refused NothingThere s is = is
verdict_refused Made s is = absurd is
verdict_refused (ForeignAt slot) s is = is
verdict_refused (DamagedPlace slot place) s is = is
verdict_refused StoreFault s is = tt
verdict_refused NoMemory s is = tt

-- by outlines that are those of the slots
pub choice_read : (r : Result Slot LogStop) (a b : Outline) (image : Image) → a ≡ outline_of (slot_state image.a) → b ≡ outline_of (slot_state image.b) → IsChoice r (judged_store (bare_state a) (bare_state b)) → IsChoice r (store_of image)
choice_read r a b image at_a at_b is =
    outlined_choice r image (subst (λ (o : Outline). IsChoice r (judged_store (bare_state o) (bare_state (outline_of (slot_state image.b))))) at_a
    (subst (λ (o : Outline). IsChoice r (judged_store (bare_state a) (bare_state o))) at_b is))

-- a choice is no cause outside of the store
pub choice_inside : (r : Result Slot LogStop) (s : StoreState) → IsChoice r s → IfErr r (λ stop. stop ≡ StoreFault → ⊥)
choice_inside (Ok slot) s is = tt
choice_inside (Err NothingThere) s is = λ same. cc
choice_inside (Err Made) s is = λ same. cc
choice_inside (Err (ForeignAt slot)) s is = λ same. cc
choice_inside (Err (DamagedPlace slot place)) s is = λ same. cc
choice_inside (Err StoreFault) s is = λ same. absurd is
choice_inside (Err NoMemory) s is = λ same. cc

-- by the outlines of a slot and of the other one
pub choice_by_a : (slot : Slot) (r : Result Slot LogStop) (here beside : Outline) (image : Image) → slot ≡ A → here ≡ outline_of (slot_state (bytes_in image slot)) → beside ≡ outline_of (slot_state (bytes_in image (opposite slot))) → IsChoice r (judged_store (bare_state here) (bare_state beside)) → IsChoice r (store_of image)
choice_by_a A r here beside image is at_here at_beside choice = choice_read r here beside image at_here at_beside choice
choice_by_a B r here beside image is at_here at_beside choice = absurd (cc)

pub choice_by_b : (slot : Slot) (r : Result Slot LogStop) (here beside : Outline) (image : Image) → slot ≡ B → here ≡ outline_of (slot_state (bytes_in image slot)) → beside ≡ outline_of (slot_state (bytes_in image (opposite slot))) → IsChoice r (judged_store (bare_state beside) (bare_state here)) → IsChoice r (store_of image)
choice_by_b A r here beside image is at_here at_beside choice = absurd (cc)
choice_by_b B r here beside image is at_here at_beside choice = choice_read r beside here image at_beside at_here choice

-- no fault, and so no cause
pub inside_cause : (T : Type 0) (before now : ℕ) (stop : LogStop) → (stop ≡ StoreFault → ⊥) → now ≡ before → IsCause {T = T} before now (Err stop)
inside_cause T before now NothingThere never same = same
inside_cause T before now Made never same = same
inside_cause T before now (ForeignAt slot) never same = same
inside_cause T before now (DamagedPlace slot place) never same = same
inside_cause T before now StoreFault never same = absurd (never refl)
inside_cause T before now NoMemory never same = same

-- where a slot is good, what is said of others can't come
pub never_outside : (r : Result Body LogStop) (tells good : Type 0) → IfErr r (λ stop. good → ⊥) → (tells → good)
    → IfErr r (λ stop. tells → IsOutside stop)
never_outside (Ok body) tells good is known = tt
never_outside (Err stop) tells good is known = λ told. absurd (is (known told))

pub body_told : (r : Result Body LogStop) (tells : Type 0) (s t : SlotState) → (tells → t ≡ s)
    → IfOk r (λ body. s ≡ Good body.header body.records body.end)
    → IfOk r (λ body. tells → t ≡ Good body.header body.records body.end)
body_told (Ok body) tells s t same is = λ told. same told ∙ is
body_told (Err stop) tells s t same is = tt
