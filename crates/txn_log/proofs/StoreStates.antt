-- What a store stands for, when one of its slots changes.
use Rattle.std.proofs.Common.{◌≡◌, inl, inr, ℕ, ◌<◌, Bool, true, false, ◌==◌, nat_lt, List, refl, sym, ap, subst, ◌∙◌, arith}
use Rattle.std.proofs.lemmas.Bool.{ne_eqb, lt-ltb}
use Rattle.std.proofs.lemmas.Bool.Decides.{nat_tests}
use Rattle.txn_log.specs.Steps.{IsOurs}
use Rattle.flow_disk.specs.declared.disk.Slot.{Slot}
use Rattle.flow_disk.specs.declared.disk.Slot.TheVariants.{A, B}
use Rattle.flow_disk.specs.Images.{Image, bytes_in, opposite}
use Rattle.txn_log.specs.declared.header.Header.{Header}
use Rattle.txn_log.specs.Stored.{SlotState, Unmade, Foreign, Damaged, Good, slot_state}
use Rattle.txn_log.specs.Stores.{StoreState, NoStore, Counts, newer, judged_store, store_of}

-- a store by one slot and the other
abbrev pub store_by : Slot → SlotState → SlotState → StoreState
store_by A here there = judged_store here there
store_by B here there = judged_store there here

pub store_is : (slot : Slot) (image : Image) → store_of image ≡ store_by slot (slot_state (bytes_in image slot)) (slot_state (bytes_in image (opposite slot)))
store_is A image = refl
store_is B image = refl

newer_is_a : (same later : Bool) (h k g : Header) (ps qs rs : List (List ℕ)) (e f d : ℕ) → newer same later h ps e k qs f ≡ Counts A g rs d → (h ≡ g) × (ps ≡ rs) × (e ≡ d) × ((os : List (List ℕ)) (c : ℕ) → newer same later h os c k qs f ≡ Counts A h os c)
newer_is_a true later h k g ps qs rs e f d is = absurd (cc)
newer_is_a false true h k g ps qs rs e f d is = (cc, cc, cc, λ os c. refl)
newer_is_a false false h k g ps qs rs e f d is = absurd (cc)

newer_is_b : (same later : Bool) (h k g : Header) (ps qs rs : List (List ℕ)) (e f d : ℕ) → newer same later h ps e k qs f ≡ Counts B g rs d → (k ≡ g) × (qs ≡ rs) × (f ≡ d) × ((os : List (List ℕ)) (c : ℕ) → newer same later h ps e k os c ≡ Counts B k os c)
newer_is_b true later h k g ps qs rs e f d is = absurd (cc)
newer_is_b false true h k g ps qs rs e f d is = absurd (cc)
newer_is_b false false h k g ps qs rs e f d is = (cc, cc, cc, λ os c. refl)

-- the slot that counts is good, and goes on to count with any records
counts_a : (a b : SlotState) (g : Header) (rs : List (List ℕ)) (d : ℕ) → judged_store a b ≡ Counts A g rs d → (a ≡ Good g rs d) × ((os : List (List ℕ)) (c : ℕ) → judged_store (Good g os c) b ≡ Counts A g os c)
counts_a Foreign b g rs d is = absurd (cc)
counts_a Unmade Foreign g rs d is = absurd (cc)
counts_a Unmade (Damaged p) g rs d is = absurd (cc)
counts_a Unmade Unmade g rs d is = absurd (cc)
counts_a Unmade (Good k qs f) g rs d is = absurd (cc)
counts_a (Damaged p) Foreign g rs d is = absurd (cc)
counts_a (Damaged p) (Damaged q) g rs d is = absurd (cc)
counts_a (Damaged p) Unmade g rs d is = absurd (cc)
counts_a (Damaged p) (Good k qs f) g rs d is = absurd (cc)
counts_a (Good h ps e) Foreign g rs d is = absurd (cc)
counts_a (Good h ps e) (Damaged p) g rs d is = absurd (cc)
counts_a (Good h ps e) Unmade g rs d is = (cc, λ os c. refl)
counts_a (Good h ps e) (Good k qs f) g rs d is =
    let both = newer_is_a (h.generation == k.generation) (nat_lt k.generation h.generation) h k g ps qs rs e f d is in
    let same : h ≡ g = both.0 in
    let list : ps ≡ rs = both.1 in
    let end : e ≡ d = both.2 in
    (cc, λ os c. subst (λ (i : Header). judged_store (Good i os c) (Good k qs f) ≡ Counts A i os c) same (both.3 os c))

counts_b : (a b : SlotState) (g : Header) (rs : List (List ℕ)) (d : ℕ) → judged_store a b ≡ Counts B g rs d → (b ≡ Good g rs d) × ((os : List (List ℕ)) (c : ℕ) → judged_store a (Good g os c) ≡ Counts B g os c)
counts_b Foreign b g rs d is = absurd (cc)
counts_b Unmade Foreign g rs d is = absurd (cc)
counts_b Unmade (Damaged p) g rs d is = absurd (cc)
counts_b Unmade Unmade g rs d is = absurd (cc)
counts_b Unmade (Good k qs f) g rs d is = (cc, λ os c. refl)
counts_b (Damaged p) Foreign g rs d is = absurd (cc)
counts_b (Damaged p) (Damaged q) g rs d is = absurd (cc)
counts_b (Damaged p) Unmade g rs d is = absurd (cc)
counts_b (Damaged p) (Good k qs f) g rs d is = absurd (cc)
counts_b (Good h ps e) Foreign g rs d is = absurd (cc)
counts_b (Good h ps e) (Damaged p) g rs d is = absurd (cc)
counts_b (Good h ps e) Unmade g rs d is = absurd (cc)
counts_b (Good h ps e) (Good k qs f) g rs d is =
    let both = newer_is_b (h.generation == k.generation) (nat_lt k.generation h.generation) h k g ps qs rs e f d is in
    let same : k ≡ g = both.0 in
    let list : qs ≡ rs = both.1 in
    let end : f ≡ d = both.2 in
    (cc, λ os c. subst (λ (i : Header). judged_store (Good h ps e) (Good i os c) ≡ Counts B i os c) same (both.3 os c))

counts_by : (slot : Slot) (here there : SlotState) (g : Header) (rs : List (List ℕ)) (d : ℕ) → store_by slot here there ≡ Counts slot g rs d → (here ≡ Good g rs d) × ((os : List (List ℕ)) (c : ℕ) → store_by slot (Good g os c) there ≡ Counts slot g os c)
counts_by A here there g rs d is = counts_a here there g rs d is
counts_by B here there g rs d is = counts_b there here g rs d is

-- the slot that counts is good
pub counts_good : (slot : Slot) (image : Image) (g : Header) (rs : List (List ℕ)) (d : ℕ) → store_of image ≡ Counts slot g rs d → slot_state (bytes_in image slot) ≡ Good g rs d
counts_good slot image g rs d is = (counts_by slot (slot_state (bytes_in image slot)) (slot_state (bytes_in image (opposite slot))) g rs d (sym (store_is slot image) ∙ is)).0

-- it goes on to count with other records
pub counts_on : (slot : Slot) (old new : Image) (g : Header) (rs os : List (List ℕ)) (d c : ℕ) → store_of old ≡ Counts slot g rs d → slot_state (bytes_in new slot) ≡ Good g os c → bytes_in new (opposite slot) ≡ bytes_in old (opposite slot) → store_of new ≡ Counts slot g os c
counts_on slot old new g rs os d c is here other =
    let now : store_by slot (slot_state (bytes_in new slot)) (slot_state (bytes_in new (opposite slot))) ≡ store_by slot (Good g os c) (slot_state (bytes_in old (opposite slot))) =
    ap (λ (s : SlotState). store_by slot s (slot_state (bytes_in new (opposite slot)))) here ∙ ap (λ (b : List ℕ). store_by slot (Good g os c) (slot_state b)) other in
    store_is slot new ∙ (now ∙ (counts_by slot (slot_state (bytes_in old slot)) (slot_state (bytes_in old (opposite slot))) g rs d (sym (store_is slot old) ∙ is)).1 os c)

-- two images with the same slots stand for the same
pub store_same : (slot : Slot) (old new : Image) → slot_state (bytes_in new slot) ≡ slot_state (bytes_in old slot) → slot_state (bytes_in new (opposite slot)) ≡ slot_state (bytes_in old (opposite slot)) → store_of new ≡ store_of old
store_same slot old new here other = store_is slot new ∙ (ap (λ (s : SlotState). store_by slot s (slot_state (bytes_in new (opposite slot)))) here ∙ (ap (λ (s : SlotState). store_by slot (slot_state (bytes_in old slot)) s) other ∙ sym (store_is slot old)))

-- both slots are unmade where there is no store
none_a : (a b : SlotState) → judged_store a b ≡ NoStore → (a ≡ Unmade) × (b ≡ Unmade)
none_a Foreign b is = absurd (cc)
none_a Unmade Foreign is = absurd (cc)
none_a Unmade (Damaged p) is = absurd (cc)
none_a Unmade Unmade is = (refl, refl)
none_a Unmade (Good k qs f) is = absurd (cc)
none_a (Damaged p) Foreign is = absurd (cc)
none_a (Damaged p) (Damaged q) is = absurd (cc)
none_a (Damaged p) Unmade is = absurd (cc)
none_a (Damaged p) (Good k qs f) is = absurd (cc)
none_a (Good h ps e) Foreign is = absurd (cc)
none_a (Good h ps e) (Damaged p) is = absurd (cc)
none_a (Good h ps e) Unmade is = absurd (cc)
none_a (Good h ps e) (Good k qs f) is = absurd (never (h.generation == k.generation) (nat_lt k.generation h.generation) is)
  where
    never : (same later : Bool) → newer same later h ps e k qs f ≡ NoStore → ⊥
    never true later was = cc
    never false true was = cc
    never false false was = cc

pub none_unmade : (image : Image) → store_of image ≡ NoStore → (slot_state image.a ≡ Unmade) × (slot_state image.b ≡ Unmade)
none_unmade image is = none_a (slot_state image.a) (slot_state image.b) is

pub a_unmade : (image : Image) → slot_state image.a ≡ Unmade → slot_state image.b ≡ Unmade → store_of image ≡ NoStore
a_unmade image a b = rw (a, b) refl

pub a_counts : (image : Image) (h : Header) (ps : List (List ℕ)) (e : ℕ) → slot_state image.a ≡ Good h ps e → slot_state image.b ≡ Unmade → store_of image ≡ Counts A h ps e
a_counts image h ps e a b = rw (a, b) refl

beside_a : (a b : SlotState) (g : Header) (rs : List (List ℕ)) (d : ℕ) → judged_store a b ≡ Counts A g rs d → IsOurs b
beside_a Foreign b g rs d is = absurd (cc)
beside_a Unmade Foreign g rs d is = absurd (cc)
beside_a Unmade (Damaged p) g rs d is = absurd (cc)
beside_a Unmade Unmade g rs d is = absurd (cc)
beside_a Unmade (Good k qs f) g rs d is = absurd (cc)
beside_a (Damaged p) Foreign g rs d is = absurd (cc)
beside_a (Damaged p) (Damaged q) g rs d is = absurd (cc)
beside_a (Damaged p) Unmade g rs d is = absurd (cc)
beside_a (Damaged p) (Good k qs f) g rs d is = absurd (cc)
beside_a (Good h ps e) Foreign g rs d is = absurd (cc)
beside_a (Good h ps e) (Damaged p) g rs d is = absurd (cc)
beside_a (Good h ps e) Unmade g rs d is = inl refl
beside_a (Good h ps e) (Good k qs f) g rs d is = inr (k, qs, f, refl)

beside_b : (a b : SlotState) (g : Header) (rs : List (List ℕ)) (d : ℕ) → judged_store a b ≡ Counts B g rs d → IsOurs a
beside_b Foreign b g rs d is = absurd (cc)
beside_b Unmade b g rs d is = inl refl
beside_b (Damaged p) Foreign g rs d is = absurd (cc)
beside_b (Damaged p) (Damaged q) g rs d is = absurd (cc)
beside_b (Damaged p) Unmade g rs d is = absurd (cc)
beside_b (Damaged p) (Good k qs f) g rs d is = absurd (cc)
beside_b (Good h ps e) b g rs d is = inr (h, ps, e, refl)

-- the slot beside the one that counts is unmade or good
pub counts_beside : (slot : Slot) (image : Image) (g : Header) (rs : List (List ℕ)) (d : ℕ) → store_of image ≡ Counts slot g rs d → IsOurs (slot_state (bytes_in image (opposite slot)))
counts_beside A image g rs d is = beside_a (slot_state image.a) (slot_state image.b) g rs d is
counts_beside B image g rs d is = beside_b (slot_state image.a) (slot_state image.b) g rs d is

-- a good slot counts beside one that is unmade
pub counts_alone : (slot : Slot) (image : Image) (g : Header) (rs : List (List ℕ)) (d : ℕ) → slot_state (bytes_in image slot) ≡ Good g rs d → slot_state (bytes_in image (opposite slot)) ≡ Unmade → store_of image ≡ Counts slot g rs d
counts_alone A image g rs d here other = rw (here, other) refl
counts_alone B image g rs d here other = rw (here, other) refl

-- a good slot counts beside an older one
pub counts_newer : (slot : Slot) (image : Image) (g k : Header) (rs qs : List (List ℕ)) (d f : ℕ) → k.generation < g.generation → slot_state (bytes_in image slot) ≡ Good g rs d → slot_state (bytes_in image (opposite slot)) ≡ Good k qs f → store_of image ≡ Counts slot g rs d
counts_newer A image g k rs qs d f lt here other =
    let differ : (g.generation == k.generation) ≡ false = ne_eqb g.generation k.generation (λ same. absurd (omega (arith, same, lt))) in
    let later : nat_lt k.generation g.generation ≡ true = lt-ltb k.generation g.generation lt in
    rw (here, other) (rw (differ, later) refl)
counts_newer B image g k rs qs d f lt here other =
    let differ : (k.generation == g.generation) ≡ false = ne_eqb k.generation g.generation (λ same. absurd (omega (arith, same, lt))) in
    let later : nat_lt g.generation k.generation ≡ false = not_later in
    rw (here, other) (rw (differ, later) refl)
  where
    not_later : nat_lt g.generation k.generation ≡ false
    not_later = grind (arith, nat_tests)
