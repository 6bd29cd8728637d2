-- The records of a slot, one after the other.
use Rattle.std.proofs.Common.{◌≡◌, ◌≢◌, ℕ, zero, suc, ◌+◌, ◌-◌, ◌*◌, ◌<◌, ◌≤◌, ◌^◌, true, false, List, [], ◌∷◌, ◌++◌, length, take, drop, get_or, refl, sym, ap, ◌∙◌, arith, subst, length-append, length-drop, Option, Some, None, MatchOption}
use Rattle.std.proofs.lemmas.List.{drop-drop, drop_all, length-take-le}
use Rattle.txn_log.specs.declared.header.Header.{Header}
use Rattle.txn_log.specs.declared.outline.Frame.{Frame}
use Rattle.txn_log.specs.declared.outline.Outline.TheVariants.{Good as GoodOutline}
use Rattle.txn_log.specs.Outlines.{outline_of}
use Rattle.txn_log.specs.Stored.{Ends, Breaks, SlotState, Unmade, Foreign, Damaged, Good, is_whole, led, length_at, listed, slot_state}
use Rattle.txn_log.specs.Walks.{HoldsRecords, IsListedFrom, RecordWalk, payloads_from, payloads_listed}
use Rattle.txn_log.specs.declared.slot_records.Record.{Record}
use Rattle.txn_log.proofs.Records.{Spells, Nothing, One, led_inverse, list_broken, list_ended, list_short, list_step, parts}
use Rattle.txn_log.proofs.Slots.{good_listed}

-- ---- how far records reach

spelled_long : (front : List ℕ) (ps : List (List ℕ)) → Spells front ps → length front ≤ 2097157 * length ps
spelled_long front ps Nothing = omega arith
spelled_long front ps (One four payload bytes payloads is4 is some most more) =
    let rest = spelled_long bytes payloads more in
    omega (arith, rest, is4, most, length-append (four ++ payload) bytes, length-append four payload)

-- a good slot ends no farther than the same number of the longest records would reach
pub good_bounded : (bytes : List ℕ) (h : Header) (ps : List (List ℕ)) (e : ℕ) → slot_state bytes ≡ Good h ps e
    → e ≤ 42 + 2097157 * length ps
good_bounded bytes h ps e is =
    let p = parts (length (drop 42 bytes)) 42 (drop 42 bytes) ps e (omega arith) (good_listed bytes h ps e is) in
    omega (arith, p.reaches, spelled_long p.front ps p.spelled)

-- ---- a slot whose outline is good

-- what the outline tells of it
pub record IsGoodAs (bytes : List ℕ) (frame : Frame) : Type 0 where
  pub state : slot_state bytes ≡ Good frame.header (payloads_from 42 bytes) frame.end
  pub count : frame.records ≡ length (payloads_from 42 bytes)

outlined : (s : SlotState) (frame : Frame) → GoodOutline frame ≡ outline_of s
    → (ps : List (List ℕ)) × (s ≡ Good frame.header ps frame.end) × (frame.records ≡ length ps)
outlined Unmade frame is = absurd (cc)
outlined Foreign frame is = absurd (cc)
outlined (Damaged place) frame is = absurd (cc)
outlined (Good h ps e) frame is =
    let same : frame ≡ record { header = h; records = length ps; end = e } = cc in
    (ps, rw same refl, rw same refl)

pub good_as : (bytes : List ℕ) (frame : Frame) → GoodOutline frame ≡ outline_of (slot_state bytes)
    → IsGoodAs bytes frame
good_as bytes frame is =
    let o = outlined (slot_state bytes) frame is in
    let same : payloads_from 42 bytes ≡ o.0 = ap payloads_listed (good_listed bytes frame.header o.0 frame.end o.1) in
    record {
      state = o.1 ∙ ap (λ (ps : List (List ℕ)). Good frame.header ps frame.end) (sym same);
      count = o.2 ∙ ap length (sym same);
    }

pub holds : (bytes : List ℕ) (frame : Frame) → length bytes < 2 ^ 63 → IsGoodAs bytes frame
    → HoldsRecords bytes frame.records
holds bytes frame short is = record {
  all = record {
    end = frame.end;
    listed_is = good_listed bytes frame.header (payloads_from 42 bytes) frame.end is.state;
    short = short;
  };
  counted = sym is.count;
}

-- ---- one record

-- at a closed gate, and behind the end, there is none
pub none_left : (place : ℕ) (bytes : List ℕ) → place < length bytes → get_or bytes place 0 ≢ 1
    → payloads_from place bytes ≡ []
none_left place bytes lt shut =
    ap payloads_listed (list_ended bytes place [] (listed 0 place (drop place bytes)) lt shut refl)

pub none_behind : (place : ℕ) (bytes : List ℕ) → length bytes ≤ place → payloads_from place bytes ≡ []
none_behind place bytes le = ap payloads_listed (list_short bytes place [] (listed 0 place (drop place bytes)) le refl)

-- at an open gate there is a whole record
pub is_there : (place : ℕ) (bytes : List ℕ) → IsListedFrom place bytes → place < length bytes → get_or bytes place 0 ≡ 1
    → is_whole (drop (place + 1) bytes) ≡ false → ⊥
is_there place bytes is lt opened broken =
    let breaks = list_broken bytes place [] (listed 0 place (drop place bytes)) lt opened broken refl in
    let both : Ends (payloads_from place bytes) is.end ≡ Breaks place = sym is.listed_is ∙ breaks in
    absurd (cc)

-- the record at an open gate, and what is left behind it
pub record IsNext (place : ℕ) (bytes payload : List ℕ) (behind : ℕ) : Type 0 where
  pub first : payloads_from place bytes ≡ payload ∷ payloads_from behind bytes
  pub listed_from : IsListedFrom behind bytes

pub next_is : (place n : ℕ) (bytes payload : List ℕ) → IsListedFrom place bytes → place < length bytes
    → get_or bytes place 0 ≡ 1 → is_whole (drop (place + 1) bytes) ≡ true → n ≡ length_at (drop (place + 1) bytes)
    → payload ≡ take n (drop (place + 5) bytes) → IsNext place bytes payload (place + 5 + n)
next_is place n bytes payload is lt opened whole size cut =
    let here = listed 0 place (drop place bytes) in
    let behind = listed 0 (place + 5 + n) (drop (place + 5 + n) bytes) in
    let step : listed 0 place (drop place bytes) ≡ led payload (listed 0 (place + 5 + n) (drop (place + 5 + n) bytes)) =
    list_step bytes place n [] payload (listed 0 place (drop place bytes)) lt opened whole size cut refl in
    let back = led_inverse payload (listed 0 (place + 5 + n) (drop (place + 5 + n) bytes)) (payloads_from place bytes)
    is.end (sym step ∙ is.listed_is) in
    let rest : payloads_from (place + 5 + n) bytes ≡ back.0 = ap payloads_listed back.1 in
    record {
      first = back.2 ∙ ap (λ (ps : List (List ℕ)). payload ∷ ps) (sym rest);
      listed_from = record {
        end = is.end;
        listed_is = back.1 ∙ ap (λ (ps : List (List ℕ)). Ends ps is.end) (sym rest);
        short = is.short;
      };
    }

-- the record as the code reads it, with the length that it finds behind the gate
pub next_read : (place n : ℕ) (bytes rest payload : List ℕ) → IsListedFrom place bytes → place < length bytes
    → get_or bytes place 0 ≡ 1 → rest ≡ drop (place + 1) bytes
    → (0 < n → (is_whole rest ≡ true) × (n ≡ length_at rest) × (4 + n < length rest))
    → (n ≡ 0 → is_whole rest ≡ false) → payload ≡ take (place + 5 + n - (place + 5)) (drop (place + 5) bytes)
    → IsNext place bytes payload (place + 5 + n) × (length payload ≡ n)
next_read place zero bytes rest payload is lt opened behind some none cut =
    absurd (is_there place bytes is lt opened (subst (λ (l : List ℕ). is_whole l ≡ false) behind (none refl)))
next_read place (suc n) bytes rest payload is lt opened behind some none cut =
    let there = some (omega arith) in
    let just : place + 5 + suc n - (place + 5) ≡ suc n = omega arith in
    let piece = cut ∙ ap (λ (k : ℕ). take k (drop (place + 5) bytes)) just in
    let long : length payload ≡ suc n = ap length piece ∙ length-take-le (suc n) (drop (place + 5) bytes)
    (omega (arith, there.2, ap length behind, length-drop (place + 5) bytes, length-drop (place + 1) bytes)) in (
      next_is place (suc n) bytes payload is lt opened (subst (λ (l : List ℕ). is_whole l ≡ true) behind there.0)
          (subst (λ (l : List ℕ). suc n ≡ length_at l) behind there.1) piece,
      long,
    )

-- ---- a walk

-- one more record is passed over, where there is one
pub passed_over : (r : Option Record) (n : ℕ) (all : List (List ℕ)) (old new : RecordWalk) → old.left ≡ drop n all
    → MatchOption r ((old.left ≡ []) × (new ≡ old)) (λ found. (found.place ≡ old.place)
    × (old.left ≡ found.payload.now ∷ new.left) × (new.place ≡ old.place + 5 + length found.payload.now))
    → new.left ≡ drop (n + 1) all
passed_over None n all old new was is =
    ap (λ (w : RecordWalk). w.left) is.1 ∙ is.0 ∙ sym (drop_all (n + 1) all (no_more n all (sym was ∙ is.0)))
  where
    no_more : (k : ℕ) (l : List (List ℕ)) → drop k l ≡ [] → length l ≤ k + 1
    no_more k l none = omega (arith, length-drop k l, ap length none)
passed_over (Some found) n all old new was is =
    ap (drop 1) (sym is.1) ∙ ap (drop 1) was ∙ drop-drop 1 n all
