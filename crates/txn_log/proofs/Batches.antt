-- Records with open gates as bytes, and the payloads that are listed in them.
use Rattle.std.proofs.Common.{◌≡◌, ℕ, zero, suc, ◌+◌, ◌*◌, ◌<◌, ◌≤◌, List, [], ◌∷◌, ◌++◌, length, take, drop, refl, sym, ap, subst, ◌∙◌, arith, length-append, append_assoc}
use Rattle.std.proofs.lemmas.List.{append-nil, take_at}
use Rattle.std.proofs.lemmas.List.Elements.{All-append, All-nil}
use Rattle.std.specs.List.{All}
use Rattle.std.specs.Int.{w32, to_be_bytes}
use Rattle.txn_log.specs.Batches.{AreRecords, payloads_in}
use Rattle.txn_log.specs.Records.{IsPayload, open_records, reach}
use Rattle.flow_disk.specs.declared.disk.Slot.{Slot}
use Rattle.flow_disk.specs.Images.{Image, bytes_in}
use Rattle.txn_log.specs.Steps.{record_bytes, IsGoodTo}
use Rattle.txn_log.specs.Stored.{Ends, Good, slot_state}
use Rattle.txn_log.specs.Walks.{payloads_listed}
use Rattle.txn_log.specs.declared.header.Header.{Header}
use Rattle.txn_log.proofs.Records.{Spells, Nothing, One, spells-append, listed-closed}
use Rattle.txn_log.proofs.Slots.{length_is, good_parts}

-- ---- open records

pub record_long : (p : List ℕ) (bytes : List ℕ) → length (1 ∷ (to_be_bytes w32 (length p) ++ p) ++ bytes) ≡ 5 + length p + length bytes
record_long p bytes = let four : length (to_be_bytes w32 (length p)) ≡ 4 = refl in simp length-append (omega arith)

pub open-push : (ps : List (List ℕ)) (p : List ℕ) → open_records (ps ++ p ∷ []) ≡ open_records ps ++ open_records (p ∷ [])
open-push [] p = refl
open-push (q ∷ ps) p =
    ap (λ (l : List ℕ). 1 ∷ (to_be_bytes w32 (length q) ++ q) ++ l) (open-push ps p)
    ∙ ap (λ (l : List ℕ). 1 ∷ l) (sym (append_assoc (to_be_bytes w32 (length q) ++ q) (open_records ps) (open_records (p ∷ []))))

-- the gate of the first record is open
pub first_open : (ps : List (List ℕ)) → 0 < length ps → open_records ps ≡ 1 ∷ drop 1 (open_records ps)
first_open [] some = absurd (omega arith)
first_open (p ∷ ps) some = refl

-- records reach as far as their bytes
pub reach_is : (place : ℕ) (ps : List (List ℕ)) → reach place ps ≡ place + length (open_records ps)
reach_is place [] = omega arith
reach_is place (p ∷ ps) = reach_is (place + 5 + length p) ps ∙ omega (arith, record_long p (open_records ps))

pub spells_of : (ps : List (List ℕ)) → All IsPayload ps → Spells (open_records ps) ps
spells_of [] all = Nothing
spells_of (p ∷ ps) all =
    let here = all 0 p (omega arith) in
    One (to_be_bytes w32 (length p)) p (open_records ps) ps refl (length_is (length p) (omega (arith, here.1))) here.0 here.1 (spells_of ps (λ k d lt. all (suc k) d (omega arith)))

pub all_one : (p : List ℕ) → IsPayload p → All IsPayload (p ∷ [])
all_one p is zero d lt = is
all_one p is (suc k) d lt = absurd (omega arith)

-- each record has more than five bytes, and no more than the longest
pub records_long : (ps : List (List ℕ)) → All IsPayload ps → (6 * length ps ≤ length (open_records ps)) × (length (open_records ps) ≤ 2097157 * length ps)
records_long [] all = (omega arith, omega arith)
records_long (p ∷ ps) all =
    let here = all 0 p (omega arith) in
    let rest = records_long ps (λ k d lt. all (suc k) d (omega arith)) in
    let long = record_long p (open_records ps) in
    (omega (arith, long, here.0, rest.0), omega (arith, long, here.1, rest.1))

-- ---- the payloads in bytes

pub payloads_back : (ps : List (List ℕ)) → All IsPayload ps → payloads_in (open_records ps) ≡ ps
unfolding payloads_in
payloads_back ps all = ap payloads_listed (listed-closed 0 0 (open_records ps) [] ps (spells_of ps all) (omega arith))

pub are_none : AreRecords [] 0
unfolding payloads_in
are_none = record { whole = refl; allowed = All-nil IsPayload; counted = refl }

pub none_in : payloads_in [] ≡ []
unfolding payloads_in
none_in = refl

module _ (bytes : List ℕ) (count : ℕ) (are : AreRecords bytes count) where
  -- there are fewer records than bytes
  pub count_few : 6 * count ≤ length bytes
  count_few = omega (arith, (records_long (payloads_in bytes) are.allowed).0, are.counted, ap length are.whole)

  pub bytes_few : length bytes ≤ 2097157 * count
  bytes_few = omega (arith, (records_long (payloads_in bytes) are.allowed).1, are.counted, ap length are.whole)

  module _ (p : List ℕ) (is : IsPayload p) where
    all_more : All IsPayload (payloads_in bytes ++ p ∷ [])
    all_more = All-append IsPayload (payloads_in bytes) (p ∷ []) are.allowed (all_one p is)

    spelled : bytes ++ open_records (p ∷ []) ≡ open_records (payloads_in bytes ++ p ∷ [])
    spelled = ap (λ (l : List ℕ). l ++ open_records (p ∷ [])) (sym are.whole) ∙ sym (open-push (payloads_in bytes) p)

    -- one record more is there
    pub more_in : payloads_in (bytes ++ open_records (p ∷ [])) ≡ payloads_in bytes ++ p ∷ []
    more_in = ap payloads_in spelled ∙ payloads_back (payloads_in bytes ++ p ∷ []) all_more

    pub are_more : AreRecords (bytes ++ open_records (p ∷ [])) (count + 1)
    are_more = record {
      whole = ap open_records more_in ∙ sym spelled;
      allowed = subst (All IsPayload) (sym more_in) all_more;
      counted = ap length more_in ∙ length-append (payloads_in bytes) (p ∷ []) ∙ ap (λ (k : ℕ). k + 1) are.counted;
    }

-- ---- a good slot

module _ (bytes : List ℕ) (header : Header) (ps : List (List ℕ)) (end : ℕ) (is : slot_state bytes ≡ Good header ps end) where
  -- whole records in place of the gate, and a closed gate behind them
  pub opened_good : (qs : List (List ℕ)) (tail : List ℕ) → All IsPayload qs → slot_state (take end bytes ++ open_records qs ++ 0 ∷ tail) ≡ Good header (ps ++ qs) (reach end qs)
  opened_good qs tail all =
      let p = good_parts bytes header ps end is in
      let front : take end bytes ≡ p.head ++ p.front = ap (take end) p.split ∙ take_at (p.head ++ p.front) (p.gate ∷ p.tail) end p.long in
      let spelled = spells-append p.front (open_records qs) ps qs p.spelled (spells_of qs all) in
      let reaches : 42 + length (p.front ++ open_records qs) ≡ reach end qs = omega (arith, p.long, p.head_long, length-append p.head p.front, length-append p.front (open_records qs), reach_is end qs) in
      let regroup : take end bytes ++ open_records qs ++ 0 ∷ tail ≡ p.head ++ ((p.front ++ open_records qs) ++ 0 ∷ tail) =
      ap (λ (l : List ℕ). l ++ open_records qs ++ 0 ∷ tail) front ∙ simp append_assoc in
      ap slot_state regroup ∙ p.stands ((p.front ++ open_records qs) ++ 0 ∷ tail) (ps ++ qs) (reach end qs)
      (listed-closed 42 0 (p.front ++ open_records qs) tail (ps ++ qs) spelled (omega arith) ∙ ap (Ends (ps ++ qs)) reaches)

  -- one record
  pub opened_one : (payload tail : List ℕ) → IsPayload payload → slot_state (take end bytes ++ 1 ∷ record_bytes payload ++ tail) ≡ Good header (ps ++ payload ∷ []) (reach end (payload ∷ []))
  opened_one payload tail allowed = ap slot_state regroup ∙ opened_good (payload ∷ []) tail (all_one payload allowed)
    where
      bare : (to_be_bytes w32 (length payload) ++ payload) ++ [] ≡ to_be_bytes w32 (length payload) ++ payload
      bare = append-nil (to_be_bytes w32 (length payload) ++ payload)

      apart : take end bytes ++ 1 ∷ record_bytes payload ++ tail ≡ take end bytes ++ 1 ∷ (to_be_bytes w32 (length payload) ++ payload) ++ 0 ∷ tail
      apart = simp append_assoc

      regroup : take end bytes ++ 1 ∷ record_bytes payload ++ tail ≡ take end bytes ++ open_records (payload ∷ []) ++ 0 ∷ tail
      regroup = apart ∙ ap (λ (l : List ℕ). take end bytes ++ 1 ∷ l ++ 0 ∷ tail) (sym bare)

  -- those of a batch
  pub opened_all : (qs : List (List ℕ)) (tail : List ℕ) → All IsPayload qs → 0 < length qs → slot_state (take end bytes ++ 1 ∷ (drop 1 (open_records qs) ++ 0 ∷ []) ++ tail) ≡ Good header (ps ++ qs) (reach end qs)
  opened_all qs tail all some =
      ap slot_state (append_assoc (take end bytes) (1 ∷ (drop 1 (open_records qs) ++ 0 ∷ [])) tail ∙ (ap (λ (l : List ℕ). take end bytes ++ l) regroup ∙ sym (append_assoc (take end bytes) (open_records qs) (0 ∷ tail))))
      ∙ opened_good qs tail all
    where
      regroup : 1 ∷ (drop 1 (open_records qs) ++ 0 ∷ []) ++ tail ≡ open_records qs ++ 0 ∷ tail
      regroup = ap (λ (l : List ℕ). 1 ∷ l) (append_assoc (drop 1 (open_records qs)) (0 ∷ []) tail) ∙ ap (λ (l : List ℕ). l ++ 0 ∷ tail) (sym (first_open qs some))

-- ---- an append

-- what opens a record that is staged
pub opens_one : (slot : Slot) (gate : ℕ) (payload : List ℕ) (s0 : Image) (good : IsGoodTo slot gate s0) → IsPayload payload → (tail : List ℕ) → slot_state (take gate (bytes_in s0 slot) ++ 1 ∷ record_bytes payload ++ tail) ≡ Good good.header (good.payloads ++ payload ∷ []) (reach gate (payload ∷ []))
opens_one slot gate payload s0 good allowed tail = opened_one (bytes_in s0 slot) good.header good.payloads gate good.good payload tail allowed

pub opens_all : (slot : Slot) (gate : ℕ) (more : List (List ℕ)) (records : List ℕ) (s0 : Image) (good : IsGoodTo slot gate s0) → records ≡ drop 1 (open_records more) → All IsPayload more → 0 < length more → (tail : List ℕ) → slot_state (take gate (bytes_in s0 slot) ++ 1 ∷ (records ++ 0 ∷ []) ++ tail) ≡ Good good.header (good.payloads ++ more) (reach gate more)
opens_all slot gate more records s0 good is all some tail =
    ap (λ (l : List ℕ). slot_state (take gate (bytes_in s0 slot) ++ 1 ∷ (l ++ 0 ∷ []) ++ tail)) is
    ∙ opened_all (bytes_in s0 slot) good.header good.payloads gate good.good more tail all some
