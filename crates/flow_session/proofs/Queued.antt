-- A store that counts has a header in range, and so a queue.
use Rattle.std.proofs.Common.{◌≡◌, ◌∙◌, ◌⊎◌, inl, inr, ⊎_elim, refl, ℕ, ◌≤◌, Bool, true, false, not, if◌then◌else◌, Option, Some, None, List, [], ◌∷◌, sym, subst, ap, take, drop, length, nat_le, ◌^◌, ◌==◌, nat_lt}
use Rattle.std.proofs.lemmas.Bool.{and_parts, leb-true}
use Rattle.flow_disk.specs.declared.disk.Slot.{Slot}
use Rattle.flow_disk.specs.Images.{Image}
use Rattle.flow_model.specs.declared.transactions.Numbered.{Numbered}
use Rattle.txn_log.specs.declared.header.Header.{Header}
use Rattle.txn_log.specs.declared.opening.Opened.{Opened}
use Rattle.txn_log.specs.Opening.{IsOpened}
use Rattle.txn_log.specs.Stored.{Listed, Ends, Breaks, SlotState, Unmade, Foreign, Damaged, Good, header_fault, header_of, is_field, is_unmade, has_magic, listed, state_of, slot_state, InRange}
use Rattle.txn_log.specs.Stores.{Counts, newer, judged_store, store_of}
use Rattle.flow_core.specs.Summaries.{Summary, taken_up, all_taken_up}
use Rattle.flow_session.specs.Histories.{StandsFor, payloads, under}
use Rattle.flow_session.specs.Keeping.{ComesTo}

-- of tests one after the other the first one passes where none fails, and the others go on
passes : (test : Bool) (place : ℕ) (rest : Option ℕ) → (if not test then Some place else rest) ≡ None
    → (test ≡ true) × (rest ≡ None)
passes true place rest none = (refl, none)
passes false place rest none = absurd (cc)

-- a field that passes its test is in its range
within : (size end low number high : ℕ) → is_field size end low number high ≡ true → (low ≤ number) × (number ≤ high)
within size end low number high passed =
    let range = and_parts (nat_le low number) (nat_le number high) (and_parts (nat_le end size) _ passed).1 in
    (leb-true low number range.0, leb-true number high range.1)

-- a header without a fault is in range
faultless : (size : ℕ) (h : Header) → header_fault size h ≡ None → InRange h
unfolding header_fault
faultless size h none =
    let first = passes (is_field size 17 1 h.generation (2 ^ 62)) 9 _ none in
    let second = passes (is_field size 18 1 h.queues 16) 17 _ first.1 in
    let third = passes (is_field size 26 1 h.limit 10000000) 18 _ second.1 in
    let fourth = passes (is_field size 34 0 h.transactions h.limit) 26 _ third.1 in
    let fifth = passes (is_field size 42 0 h.roots h.transactions) 34 _ fourth.1 in
    let generation = within size 17 1 h.generation (2 ^ 62) first.0 in
    let queues = within size 18 1 h.queues 16 second.0 in
    let limit = within size 26 1 h.limit 10000000 third.0 in
    record {
      generation_low = generation.0;
      generation_high = generation.1;
      queues_low = queues.0;
      queues_high = queues.1;
      limit_low = limit.0;
      limit_high = limit.1;
      transactions_high = (within size 34 0 h.transactions h.limit fourth.0).1;
      roots_high = (within size 42 0 h.roots h.transactions fifth.0).1;
    }

-- a good slot has a header without a fault
good : (unmade magic : Bool) (fault : Option ℕ) (head h : Header) (listed : Listed) (ps : List (List ℕ)) (e : ℕ) → state_of unmade magic fault head listed ≡ Good h ps e → (fault ≡ None) × (head ≡ h)
good true magic fault head h listed ps e is = absurd (cc)
good false false fault head h listed ps e is = absurd (cc)
good false true (Some place) head h listed ps e is = absurd (cc)
good false true None head h (Breaks place) ps e is = absurd (cc)
good false true None head h (Ends qs f) ps e is = (refl, cc)

of_good : (bytes : List ℕ) (h : Header) (ps : List (List ℕ)) (e : ℕ) → slot_state bytes ≡ Good h ps e → InRange h
of_good bytes h ps e is =
    let head = take 42 bytes in
    let g = good (is_unmade head) (has_magic head) (header_fault (length head) (header_of head)) (header_of head) h (listed 0 42 (drop 42 bytes)) ps e is in
    subst InRange g.1 (faultless (length head) (header_of head) g.0)

-- the slot that counts is good
one_newer : (same later : Bool) (h k h' : Header) (ps qs ps' : List (List ℕ)) (e f e' : ℕ) (slot : Slot) → newer same later h ps e k qs f ≡ Counts slot h' ps' e' → (h ≡ h') ⊎ (k ≡ h')
one_newer true later h k h' ps qs ps' e f e' slot is = absurd (cc)
one_newer false true h k h' ps qs ps' e f e' slot is = inl (cc)
one_newer false false h k h' ps qs ps' e f e' slot is = inr (cc)

of_stores : (a b : SlotState) (slot : Slot) (h : Header) (ps : List (List ℕ)) (e : ℕ) → ((k : Header) (qs : List (List ℕ)) (f : ℕ) → a ≡ Good k qs f → InRange k) → ((k : Header) (qs : List (List ℕ)) (f : ℕ) → b ≡ Good k qs f → InRange k)
    → judged_store a b ≡ Counts slot h ps e → InRange h
of_stores Foreign b slot h ps e first second is = absurd (cc)
of_stores Unmade Foreign slot h ps e first second is = absurd (cc)
of_stores Unmade Unmade slot h ps e first second is = absurd (cc)
of_stores Unmade (Damaged q) slot h ps e first second is = absurd (cc)
of_stores Unmade (Good k qs f) slot h ps e first second is = let same : k ≡ h = cc in subst InRange same (second k qs f refl)
of_stores (Damaged p) Foreign slot h ps e first second is = absurd (cc)
of_stores (Damaged p) Unmade slot h ps e first second is = absurd (cc)
of_stores (Damaged p) (Damaged q) slot h ps e first second is = absurd (cc)
of_stores (Damaged p) (Good k qs f) slot h ps e first second is = absurd (cc)
of_stores (Good k qs f) Foreign slot h ps e first second is = absurd (cc)
of_stores (Good k qs f) Unmade slot h ps e first second is = let same : k ≡ h = cc in subst InRange same (first k qs f refl)
of_stores (Good k qs f) (Damaged q) slot h ps e first second is = absurd (cc)
of_stores (Good k qs f) (Good k' qs' f') slot h ps e first second is =
    ⊎_elim (λ (same : k ≡ h). subst InRange same (first k qs f refl)) (λ (same : k' ≡ h). subst InRange same (second k' qs' f' refl))
    (one_newer (k.generation == k'.generation) (nat_lt k'.generation k.generation) k k' h qs qs' ps f f' e slot is)

-- the header of a store that counts is in range
pub in_range : (image : Image) (slot : Slot) (h : Header) (ps : List (List ℕ)) (e : ℕ) → store_of image ≡ Counts slot h ps e
    → InRange h
in_range image slot h ps e is =
    of_stores (slot_state image.a) (slot_state image.b) slot h ps e (λ k qs f g. of_good image.a k qs f g) (λ k qs f g. of_good image.b k qs f g) is

-- so it has a queue
pub has_queue : (image : Image) (slot : Slot) (h : Header) (ps : List (List ℕ)) (e : ℕ) → store_of image ≡ Counts slot h ps e → 1 ≤ h.queues
has_queue image slot h ps e is = (in_range image slot h ps e is).queues_low

-- records leave the number of queues as it is
taken_queues : (kept : ℕ) (records : List Numbered) (s : Summary) → (all_taken_up kept records s).queues ≡ s.queues
taken_queues kept [] s = refl
taken_queues kept (n ∷ ns) s = taken_queues kept ns (taken_up kept n s)

-- the state of a store that is opened has a queue
pub opened_has_queue : (image : Image) (opened : Opened) (s : Summary) → IsOpened image opened → ComesTo opened s → 1 ≤ s.queues
opened_has_queue image opened s is comes =
    let h = opened.header in
    let same : s.queues ≡ h.queues = sym (ap (λ (x : Summary). x.queues) comes.comes_to) ∙ taken_queues h.transactions comes.records (under h) in
    subst (λ (n : ℕ). 1 ≤ n) (sym same) (has_queue image opened.log.slot h opened.records opened.log.end is)

-- what a store stands for has a queue
pub stands_queue : (image : Image) (s : Summary) → StandsFor s image → 1 ≤ s.queues
stands_queue image s stands =
    let h = stands.header in
    let same : s.queues ≡ h.queues
    = sym (ap (λ (x : Summary). x.queues) stands.comes_to) ∙ taken_queues h.transactions stands.records (under h) in
    subst (λ (n : ℕ). 1 ≤ n) (sym same)
    (has_queue image stands.slot h (payloads stands.records) stands.end stands.counts)
