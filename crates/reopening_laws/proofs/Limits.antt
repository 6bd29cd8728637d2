-- What the header of a store that counts keeps within: its queues and its limit.
use Rattle.std.proofs.Common.{◌≡◌, ◌⊎◌, inl, inr, refl, ℕ, ◌≤◌, Bool, true, false, not, ◌&&◌, if◌then◌else◌, Option, Some, None}
use Rattle.std.proofs.Common.{List, subst, take, drop, length, nat_le, ◌^◌, ◌==◌, nat_lt}
use Rattle.std.proofs.lemmas.Bool.{leb-true}
use Rattle.flow_disk.specs.declared.disk.Slot.{Slot}
use Rattle.flow_disk.specs.Images.{Image}
use Rattle.txn_log.specs.declared.header.Header.{Header}
use Rattle.txn_log.specs.Stored.{Listed, Ends, Breaks, SlotState, Unmade, Foreign, Damaged, Good, header_fault, header_of}
use Rattle.txn_log.specs.Stored.{is_field, is_unmade, has_magic, listed, state_of, slot_state}
use Rattle.txn_log.specs.Stores.{Counts, newer, judged_store, store_of}

-- a header that is whole in some bytes, without a fault
abbrev IsWhole : Header → Type 0
IsWhole h = (size : ℕ) × (header_fault size h ≡ None)

-- ---- the header of the slot that counts is whole

-- a good slot has a header without a fault
good : (unmade magic : Bool) (fault : Option ℕ) (head h : Header) (listed : Listed) (ps : List (List ℕ)) (e : ℕ)
    → state_of unmade magic fault head listed ≡ Good h ps e → (fault ≡ None) × (head ≡ h)
good true magic fault head h listed ps e is = absurd (cc)
good false false fault head h listed ps e is = absurd (cc)
good false true (Some place) head h listed ps e is = absurd (cc)
good false true None head h (Breaks place) ps e is = absurd (cc)
good false true None head h (Ends qs f) ps e is = (refl, cc)

of_slot : (bytes : List ℕ) (h : Header) (ps : List (List ℕ)) (e : ℕ) → slot_state bytes ≡ Good h ps e → IsWhole h
of_slot bytes h ps e is =
    let head = take 42 bytes in
    let g = good (is_unmade head) (has_magic head) (header_fault (length head) (header_of head)) (header_of head) h
    (listed 0 42 (drop 42 bytes)) ps e is in
    subst IsWhole g.1 (length head, g.0)

-- of two good slots one counts
one_newer : (same later : Bool) (h k h' : Header) (ps qs ps' : List (List ℕ)) (e f e' : ℕ) (slot : Slot)
    → newer same later h ps e k qs f ≡ Counts slot h' ps' e' → (h ≡ h') ⊎ (k ≡ h')
one_newer true later h k h' ps qs ps' e f e' slot is = absurd (cc)
one_newer false true h k h' ps qs ps' e f e' slot is = inl (cc)
one_newer false false h k h' ps qs ps' e f e' slot is = inr (cc)

-- what holds of the header of each good slot holds of that of the slot that counts
abbrev AllGood : SlotState → Type 0
AllGood state = (k : Header) (qs : List (List ℕ)) (f : ℕ) → state ≡ Good k qs f → IsWhole k

of_stores : (a b : SlotState) (slot : Slot) (h : Header) (ps : List (List ℕ)) (e : ℕ) → AllGood a → AllGood b
    → judged_store a b ≡ Counts slot h ps e → IsWhole h
of_stores Foreign b slot h ps e first second is = absurd (cc)
of_stores Unmade Foreign slot h ps e first second is = absurd (cc)
of_stores Unmade Unmade slot h ps e first second is = absurd (cc)
of_stores Unmade (Damaged q) slot h ps e first second is = absurd (cc)
of_stores Unmade (Good k qs f) slot h ps e first second is =
    let same : k ≡ h = cc in subst IsWhole same (second k qs f refl)
of_stores (Damaged p) Foreign slot h ps e first second is = absurd (cc)
of_stores (Damaged p) Unmade slot h ps e first second is = absurd (cc)
of_stores (Damaged p) (Damaged q) slot h ps e first second is = absurd (cc)
of_stores (Damaged p) (Good k qs f) slot h ps e first second is = absurd (cc)
of_stores (Good k qs f) Foreign slot h ps e first second is = absurd (cc)
of_stores (Good k qs f) Unmade slot h ps e first second is =
    let same : k ≡ h = cc in subst IsWhole same (first k qs f refl)
of_stores (Good k qs f) (Damaged q) slot h ps e first second is = absurd (cc)
of_stores (Good k qs f) (Good k' qs' f') slot h ps e first second is =
    go (one_newer (k.generation == k'.generation) (nat_lt k'.generation k.generation) k k' h qs qs' ps f f' e slot is)
  where
    go : (k ≡ h) ⊎ (k' ≡ h) → IsWhole h
    go (inl same) = subst IsWhole same (first k qs f refl)
    go (inr same) = subst IsWhole same (second k' qs' f' refl)

whole_header : (image : Image) (slot : Slot) (h : Header) (ps : List (List ℕ)) (e : ℕ)
    → store_of image ≡ Counts slot h ps e → IsWhole h
whole_header image slot h ps e is =
    of_stores (slot_state image.a) (slot_state image.b) slot h ps e (λ k qs f g. of_slot image.a k qs f g)
    (λ k qs f g. of_slot image.b k qs f g) is

-- ---- what a whole header keeps within

-- of tests one after the other the third passes where none fails
third_passes : (first second third : Bool) (a b c : ℕ) (rest : Option ℕ)
    → (if not first then Some a else (if not second then Some b else (if not third then Some c else rest))) ≡ None
    → (second ≡ true) × (third ≡ true)
third_passes true true true a b c rest none = (refl, refl)
third_passes true true false a b c rest none = absurd (cc)
third_passes true false third a b c rest none = absurd (cc)
third_passes false second third a b c rest none = absurd (cc)

all_three : (first second third : Bool) → first && (second && third) ≡ true → (second ≡ true) × (third ≡ true)
all_three true true true all = (refl, refl)
all_three true true false all = absurd (cc)
all_three true false third all = absurd (cc)
all_three false second third all = absurd (cc)

-- the queues and the limit of a header
pub record KeepsWithin (h : Header) : Type 0 where
  pub some_ : 1 ≤ h.queues
  pub queues : h.queues ≤ 16
  pub limit : h.limit ≤ 10000000

within : (size : ℕ) (h : Header) → header_fault size h ≡ None → KeepsWithin h
unfolding header_fault
within size h none =
    let passed = third_passes (is_field size 17 1 h.generation (2 ^ 62)) (is_field size 18 1 h.queues 16)
    (is_field size 26 1 h.limit 10000000) 9 17 18 _ none in
    let queues = all_three (nat_le 18 size) (nat_le 1 h.queues) (nat_le h.queues 16) passed.0 in
    let limit = all_three (nat_le 26 size) (nat_le 1 h.limit) (nat_le h.limit 10000000) passed.1 in
    record {
      some_ = leb-true 1 h.queues queues.0;
      queues = leb-true h.queues 16 queues.1;
      limit = leb-true h.limit 10000000 limit.1;
    }

pub keeps_within : (image : Image) (slot : Slot) (h : Header) (ps : List (List ℕ)) (e : ℕ)
    → store_of image ≡ Counts slot h ps e → KeepsWithin h
keeps_within image slot h ps e is = let whole = whole_header image slot h ps e is in within whole.0 h whole.1
