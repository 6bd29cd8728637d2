-- A body of records behind a closed gate.
use Rattle.std.proofs.Common.{◌≡◌, ◌≢◌, ℕ, suc, ◌+◌, ◌-◌, ◌≤◌, List, [], ◌∷◌, ◌++◌, length, drop, refl, sym, ap, subst, ◌∙◌, arith, length-append, append_assoc}
use Rattle.std.proofs.lemmas.List.{append-nil}
use Rattle.std.specs.List.{All}
use Rattle.std.specs.Int.{w32, to_be_bytes}
use Rattle.flow_disk.specs.declared.disk.Slot.{Slot}
use Rattle.flow_disk.specs.Images.{Image, bytes_in, put_in, opposite, spliced}
use Rattle.txn_log.specs.declared.header.Header.{Header}
use Rattle.txn_log.specs.Records.{reach, IsPayload}
use Rattle.txn_log.specs.Steps.{Begins, IsShut, HasBody}
use Rattle.txn_log.specs.Stored.{Ends, header_text}
use Rattle.txn_log.proofs.Begin.{written_begins, begins_long}
use Rattle.txn_log.proofs.Made.{front_long, front_on, text_long, closed_now}
use Rattle.txn_log.proofs.Records.{Spells, Nothing, One, listed-closed}
use Rattle.txn_log.proofs.Slots.{length_is}
use Rattle.checkpoint.specs.Writing.{Adds, record_text, spelled}

pub record_long : (payload : List ℕ) → length (record_text payload) ≡ 5 + length payload
record_long payload = let four : length (to_be_bytes w32 (length payload)) ≡ 4 = refl in simp length-append (omega arith)

pub spelled-push : (ps : List (List ℕ)) (p : List ℕ) → spelled (ps ++ p ∷ []) ≡ spelled ps ++ record_text p
spelled-push [] p = append-nil (record_text p)
spelled-push (q ∷ ps) p = ap (λ (l : List ℕ). record_text q ++ l) (spelled-push ps p) ∙ sym (append_assoc (record_text q) (spelled ps) (record_text p))

pub reach_is : (place : ℕ) (ps : List (List ℕ)) → reach place ps ≡ place + length (spelled ps)
reach_is place [] = omega arith
reach_is place (p ∷ ps) = reach_is (place + 5 + length p) ps ∙ (let long : length (record_text p ++ spelled ps) ≡ 5 + length p + length (spelled ps) = length-append (record_text p) (spelled ps) ∙ ap (λ (k : ℕ). k + length (spelled ps)) (record_long p) in omega (arith, long))

pub spells_of : (ps : List (List ℕ)) → All IsPayload ps → Spells (spelled ps) ps
spells_of [] all = Nothing
spells_of (p ∷ ps) all =
    let here = all 0 p (omega arith) in
    One (to_be_bytes w32 (length p)) p (spelled ps) ps refl (length_is (length p) (omega (arith, here.1))) here.0 here.1 (spells_of ps (λ k d lt. all (suc k) d (omega arith)))

-- the whole body
module _ (slot : Slot) (from : ℕ) (h : Header) (ps : List (List ℕ)) (all : All IsPayload ps) (s0 s1 s2 s3 : Image) (shut : IsShut slot from s0) where
  headed : Adds slot from (drop (from - 1) (header_text h)) s0 s1 → Begins slot (shut.gate ∷ header_text h) (bytes_in s0 (opposite slot)) s1
  headed first = subst (λ (l : List ℕ). Begins slot l (bytes_in s0 (opposite slot)) s1) (front_on shut.gate shut.magic from h shut.kind)
      (first (shut.gate ∷ shut.magic) (bytes_in s0 (opposite slot)) (front_long shut.gate shut.magic from shut.kind) (closed_now slot from s0 shut))

  listing : Adds slot from (drop (from - 1) (header_text h)) s0 s1 → Adds slot 42 (spelled ps) s1 s2 → Begins slot ((shut.gate ∷ header_text h) ++ spelled ps) (bytes_in s0 (opposite slot)) s2
  listing first second = second (shut.gate ∷ header_text h) (bytes_in s0 (opposite slot)) (text_long shut.gate h) (headed first)

  ending : Adds slot from (drop (from - 1) (header_text h)) s0 s1 → Adds slot 42 (spelled ps) s1 s2 → s3 ≡ put_in s2 slot (spliced (bytes_in s2 slot) (reach 42 ps) (0 ∷ [])) → Begins slot (((shut.gate ∷ header_text h) ++ spelled ps) ++ 0 ∷ []) (bytes_in s0 (opposite slot)) s3
  ending first second third =
      let long : length ((shut.gate ∷ header_text h) ++ spelled ps) ≡ reach 42 ps = length-append (shut.gate ∷ header_text h) (spelled ps) ∙ (ap (λ (k : ℕ). k + length (spelled ps)) (text_long shut.gate h) ∙ sym (reach_is 42 ps)) in
      written_begins slot (reach 42 ps) ((shut.gate ∷ header_text h) ++ spelled ps) (bytes_in s0 (opposite slot)) (0 ∷ []) s2 s3 long (listing first second) third

  pub body_of : Adds slot from (drop (from - 1) (header_text h)) s0 s1 → Adds slot 42 (spelled ps) s1 s2 → s3 ≡ put_in s2 slot (spliced (bytes_in s2 slot) (reach 42 ps) (0 ∷ [])) → HasBody slot h ps (reach 42 ps) s3
  body_of first second third =
      let whole = ending first second third in
      let closed : 0 ≢ 1 = λ same. absurd (omega (arith, same)) in
      record {
        gate = shut.gate;
        rest = spelled ps ++ 0 ∷ whole.behind;
        here = whole.here ∙ (append_assoc ((shut.gate ∷ header_text h) ++ spelled ps) (0 ∷ []) whole.behind ∙ append_assoc (shut.gate ∷ header_text h) (spelled ps) (0 ∷ whole.behind));
        closed = shut.closed;
        lists = listed-closed 42 0 (spelled ps) whole.behind ps (spells_of ps all) closed ∙ ap (Ends ps) (sym (reach_is 42 ps));
      }

  pub body_beside : Adds slot from (drop (from - 1) (header_text h)) s0 s1 → Adds slot 42 (spelled ps) s1 s2 → s3 ≡ put_in s2 slot (spliced (bytes_in s2 slot) (reach 42 ps) (0 ∷ [])) → bytes_in s3 (opposite slot) ≡ bytes_in s0 (opposite slot)
  body_beside first second third = (ending first second third).other

-- behind the header there is room for a record
pub header_within : (slot : Slot) (from : ℕ) (h : Header) (s0 s1 : Image) → IsShut slot from s0 → Adds slot from (drop (from - 1) (header_text h)) s0 s1 → 42 ≤ length (bytes_in s1 slot)
header_within slot from h s0 s1 shut first =
    let begins = headed slot from h [] (λ k d lt. absurd (omega arith)) s0 s1 s1 s1 shut first in
    omega (arith, text_long shut.gate h, begins_long slot (shut.gate ∷ header_text h) (bytes_in s0 (opposite slot)) s1 begins)
