-- The first step of a slot that is made: its gate is closed, or used as it stands.
use Rattle.std.proofs.Common.{◌≡◌, ◌≢◌, ◌⊎◌, inl, inr, ⊎_elim, ℕ, ◌<◌, ◌≤◌, Bool, true, false, ◌&&◌, ◌||◌, not, ◌==◌, nat_eq, nat_le, List, [], ◌∷◌, ◌++◌, length, take, drop, slice_index, Option, Some, None, codes, refl, sym, ap, ◌∙◌, arith, take-append-drop}
use Rattle.std.proofs.lemmas.Bool.{cases_eq, cases_lt, ne_eqb, le-leb, lt-leb}
use Rattle.std.proofs.lemmas.List.{length-take, take-take}
use Rattle.std.proofs.lemmas.Slice.Eq.{bytes_eq-Decides}
use Rattle.std.specs.List.{starts_with}
use Rattle.flow_disk.specs.declared.disk.Slot.{Slot}
use Rattle.flow_disk.specs.Images.{Image, bytes_in, put_in, opposite, spliced, TornIn}
use Rattle.txn_log.specs.declared.header.Header.{Header}
use Rattle.txn_log.specs.Stored.{Listed, Ends, Breaks, Unmade, Good, is_unmade, has_magic, header_of, header_fault, state_of, slot_state, listed}
use Rattle.txn_log.specs.Steps.{GateDiffers, IsShut, StandsOrUnmade, IsOurs}
use Rattle.txn_log.proofs.Begin.{in_put, torn_gate}
use Rattle.txn_log.proofs.Fronts.{unmade_front}

short_test : (head : List ℕ) → length head ≤ 1 → is_unmade head ≡ true
unfolding is_unmade
short_test head le = rw (le-leb (length head) 1 le) refl

-- a slot of at most one byte
short_unmade : (bytes : List ℕ) → length bytes ≤ 1 → slot_state bytes ≡ Unmade
short_unmade bytes le =
    let test : is_unmade (take 42 bytes) ≡ true = short_test (take 42 bytes) (omega (arith, length-take 42 bytes)) in
    rw test refl

-- what isn't unmade has a byte
pub not_short : (head : List ℕ) → is_unmade head ≡ false → 1 ≤ length head
unfolding is_unmade
not_short [] is = absurd (cc)
not_short (byte ∷ head) is = omega arith

state_unmade : (u m : Bool) (f : Option ℕ) (h : Header) (l : Listed) → state_of u m f h l ≡ Unmade → u ≡ true
state_unmade true m f h l is = refl
state_unmade false false f h l is = absurd (cc)
state_unmade false true (Some p) h l is = absurd (cc)
state_unmade false true None h (Ends ps e) is = absurd (cc)
state_unmade false true None h (Breaks p) is = absurd (cc)

state_good : (u m : Bool) (f : Option ℕ) (h k : Header) (l : Listed) (ps : List (List ℕ)) (e : ℕ) → state_of u m f h l ≡ Good k ps e → m ≡ true
state_good true m f h k l ps e is = absurd (cc)
state_good false true f h k l ps e is = refl
state_good false false f h k l ps e is = absurd (cc)

last_of : (a b c d : Bool) → a ≡ false → b ≡ false → (a || (b || (c && d))) ≡ true → c ≡ true
last_of true b c d na nb is = absurd (cc)
last_of false true c d na nb is = absurd (cc)
last_of false false true d na nb is = refl
last_of false false false d na nb is = absurd (cc)

either_of : (a b : Bool) → (a || b) ≡ true → (a ≡ true) ⊎ (b ≡ true)
either_of true b is = inl refl
either_of false b is = inr is

unmade_front_of : (gate : ℕ) (rest : List ℕ) → 0 < length rest → gate ≢ 0 → is_unmade (gate ∷ rest) ≡ true → take 7 rest ≡ codes "FLOWSTR"
unfolding is_unmade
unmade_front_of gate rest some shut is =
    let long : nat_le (length (gate ∷ rest)) 1 ≡ false = lt-leb (length (gate ∷ rest)) 1 (omega arith) in
    let test = last_of (nat_le (length (gate ∷ rest)) 1) (gate == 0) (starts_with nat_eq rest (codes "FLOWSTR")) (not (gate == 1)) long (ne_eqb gate 0 shut) is in
    sym ((bytes_eq-Decides (codes "FLOWSTR") (take 7 rest)).0 test)

magic_front_of : (gate : ℕ) (rest : List ℕ) → has_magic (gate ∷ rest) ≡ true → take 7 rest ≡ codes "FLOWSTR"
unfolding has_magic
magic_front_of gate rest is =
    sym (take-take 7 8 rest (omega arith)) ∙ ⊎_elim
    (λ one. ap (λ (l : List ℕ). take 7 l) (sym ((bytes_eq-Decides (codes "FLOWSTR1") (take 8 rest)).0 one)))
    (λ two. ap (λ (l : List ℕ). take 7 l) (sym ((bytes_eq-Decides (codes "FLOWSTR2") (take 8 rest)).0 two)))
    (either_of (starts_with nat_eq rest (codes "FLOWSTR1")) (starts_with nat_eq rest (codes "FLOWSTR2")) is)

-- a slot of this store has the front of the magic behind its first byte
ours_front : (gate : ℕ) (rest : List ℕ) → 0 < length rest → gate ≢ 0 → IsOurs (slot_state (gate ∷ rest)) → take 7 rest ≡ codes "FLOWSTR"
ours_front gate rest some shut ours = sym (take-take 7 41 rest (omega arith)) ∙ ⊎_elim
    (λ unmade. unmade_front_of gate (take 41 rest) (omega (arith, length-take 41 rest)) shut
    (state_unmade (is_unmade (gate ∷ take 41 rest)) (has_magic (gate ∷ take 41 rest)) (header_fault (length (gate ∷ take 41 rest)) (header_of (gate ∷ take 41 rest))) (header_of (gate ∷ take 41 rest)) (listed 0 42 (drop 41 rest)) unmade))
    (λ good. magic_front_of gate (take 41 rest)
    (state_good (is_unmade (gate ∷ take 41 rest)) (has_magic (gate ∷ take 41 rest)) (header_fault (length (gate ∷ take 41 rest)) (header_of (gate ∷ take 41 rest))) (header_of (gate ∷ take 41 rest)) good.0 (listed 0 42 (drop 41 rest)) good.1 good.2 good.3))
    ours

-- the gate is used as it stands
pub stands_zero : (slot : Slot) (image : Image) → 1 < length (bytes_in image slot) → slice_index (bytes_in image slot) 0 ≡ 0 → IsShut slot 1 image
stands_zero slot image long first = zero_of (bytes_in image slot) refl long first
  where
    zero_of : (bytes : List ℕ) → bytes_in image slot ≡ bytes → 1 < length bytes → slice_index bytes 0 ≡ 0 → IsShut slot 1 image
    zero_of [] is lt z = absurd (omega arith)
    zero_of (a ∷ rest) is lt z = record { gate = a; magic = []; behind = rest; here = is; closed = λ one. absurd (omega (arith, one, z)); kind = inl (refl, refl, z) }

pub stands_other : (slot : Slot) (image : Image) → 1 < length (bytes_in image slot) → slice_index (bytes_in image slot) 0 ≢ 0 → slice_index (bytes_in image slot) 0 ≢ 1 → IsOurs (slot_state (bytes_in image slot)) → IsShut slot 8 image
stands_other slot image long nonzero shut ours = other_of (bytes_in image slot) refl long nonzero shut ours
  where
    other_of : (bytes : List ℕ) → bytes_in image slot ≡ bytes → 1 < length bytes → slice_index bytes 0 ≢ 0 → slice_index bytes 0 ≢ 1 → IsOurs (slot_state bytes) → IsShut slot 8 image
    other_of [] is lt z o s = absurd (omega arith)
    other_of (a ∷ rest) is lt z o s = record {
      gate = a;
      magic = codes "FLOWSTR";
      behind = drop 7 rest;
      here = is ∙ ap (λ (l : List ℕ). a ∷ l) (sym (take-append-drop 7 rest) ∙ ap (λ (l : List ℕ). l ++ drop 7 rest) (ours_front a rest (omega arith) z s));
      closed = o;
      kind = inr (refl, refl);
    }

-- the gate that is closed
pub shut_now : (slot : Slot) (old new : Image) → new ≡ put_in old slot (spliced (bytes_in old slot) 0 (0 ∷ [])) → IsShut slot 1 new
shut_now slot old new is = record {
  gate = 0;
  magic = [];
  behind = drop 1 (bytes_in old slot);
  here = ap (λ (i : Image). bytes_in i slot) is ∙ in_put slot old (spliced (bytes_in old slot) 0 (0 ∷ []));
  closed = λ one. absurd (omega (arith, one));
  kind = inl (refl, refl, refl);
}

-- each image while it is closed
pub torn_shut : (slot : Slot) (old c : Image) → (length (bytes_in old slot) ≤ 1) ⊎ (slice_index (bytes_in old slot) 0 ≡ 1) → IsOurs (slot_state (bytes_in old slot)) → TornIn slot 0 1 old c → StandsOrUnmade slot (slot_state (bytes_in old slot)) (bytes_in old (opposite slot)) c
torn_shut slot old c held ours torn = elim (cases_lt 1 (length (bytes_in old slot))) [
  | inr short ↦ record { here = inr (short_unmade (bytes_in c slot) (omega (arith, torn.here.no_longer))); other = torn.there }
  | inl long ↦ record { here = whole (bytes_in old slot) refl long (⊎_elim (λ short. absurd (omega arith)) (λ one. one) held) ours (torn_gate slot 0 old c (omega arith) torn); other = torn.there }
]
  where
    whole : (bytes : List ℕ) → bytes_in old slot ≡ bytes → 1 < length bytes → slice_index bytes 0 ≡ 1 → IsOurs (slot_state bytes) → GateDiffers slot 0 old c → (slot_state (bytes_in c slot) ≡ slot_state bytes) ⊎ (slot_state (bytes_in c slot) ≡ Unmade)
    whole [] is lt one s differs = absurd (omega arith)
    whole (a ∷ rest) is lt one s differs =
        let now : bytes_in c slot ≡ differs.0 ∷ rest = ap (λ (i : Image). bytes_in i slot) differs.1 ∙ (in_put slot old (spliced (bytes_in old slot) 0 (differs.0 ∷ [])) ∙ ap (λ (l : List ℕ). differs.0 ∷ drop 1 l) is) in
        let magic : rest ≡ codes "FLOWSTR" ++ drop 7 rest = sym (take-append-drop 7 rest) ∙ ap (λ (l : List ℕ). l ++ drop 7 rest) (ours_front a rest (omega arith) (λ z. absurd (omega (arith, z, one))) s) in
        elim (cases_eq differs.0 1) [
          | inl opened ↦ inl (ap slot_state (now ∙ ap (λ (g : ℕ). g ∷ rest) (opened ∙ sym one)))
          | inr shut ↦ inr (ap slot_state (now ∙ ap (λ (l : List ℕ). differs.0 ∷ l) magic) ∙ unmade_front differs.0 (codes "FLOWSTR") (drop 7 rest) 8 shut (inr (refl, refl)))
        ]

pub held_open : (bytes : List ℕ) (size first : ℕ) → size ≡ length bytes → (1 < size → first ≡ slice_index bytes 0) → (size ≤ 1) ⊎ (first ≡ 1) → (length bytes ≤ 1) ⊎ (slice_index bytes 0 ≡ 1)
held_open bytes size first is reads known = elim (cases_lt 1 size) [
  | inr short ↦ inl (omega arith)
  | inl long ↦ ⊎_elim (λ short. absurd (omega arith)) (λ one. inr (sym (reads long) ∙ one)) known
]
