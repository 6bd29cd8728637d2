-- What a good slot is made of, and what a crash in its records makes of it.
use Rattle.std.proofs.Common.{◌≡◌, ◌≢◌, ℕ, ◌+◌, ◌^◌, ◌<◌, ◌≤◌, Bool, true, false, List, [], ◌∷◌, ◌++◌, length, take, drop, Option, Some, None, sym, ap, ◌∙◌, arith, length-append, append_assoc, take-append-drop, length-drop}
use Rattle.std.proofs.lemmas.List.{take_at, drop_at, length-take}
use Rattle.std.proofs.lemmas.Nat.{from_be_bytes-to_be_bytes_4}
use Rattle.std.specs.Int.{w32, to_be_bytes}
use Rattle.txn_log.specs.declared.header.Header.{Header}
use Rattle.txn_log.specs.Stored.{Listed, Ends, Breaks, length_at, listed, Good, is_unmade, has_magic, header_of, header_fault, state_of, slot_state}
use Rattle.txn_log.proofs.Records.{Spells, listed-closed, parts}

pub length_is : (n : ℕ) → n < 2 ^ 32 → length_at (to_be_bytes w32 n) ≡ n
unfolding length_at
length_is n lt = from_be_bytes-to_be_bytes_4 n lt

-- a good slot has passed the tests of its header, whatever is listed
passed : (unmade magic : Bool) (fault : Option ℕ) (h : Header) (records : Listed) (header : Header) (ps : List (List ℕ)) (e : ℕ) → state_of unmade magic fault h records ≡ Good header ps e → (records ≡ Ends ps e) × ((qs : List (List ℕ)) (f : ℕ) → state_of unmade magic fault h (Ends qs f) ≡ Good header qs f)
passed true magic fault h records header ps e is = absurd (cc)
passed false false fault h records header ps e is = absurd (cc)
passed false true (Some place) h records header ps e is = absurd (cc)
passed false true None h (Breaks place) header ps e is = absurd (cc)
passed false true None h (Ends rs f) header ps e is =
    let head : h ≡ header = cc in
    let list : rs ≡ ps = cc in
    let end : f ≡ e = cc in
    (ap (λ (l : List (List ℕ)). Ends l f) list ∙ ap (Ends ps) end, λ qs i. ap (λ (k : Header). Good k qs i) head)

-- the records of a good slot are listed behind its header
pub good_listed : (bytes : List ℕ) (header : Header) (ps : List (List ℕ)) (e : ℕ) → slot_state bytes ≡ Good header ps e
    → listed 0 42 (drop 42 bytes) ≡ Ends ps e
good_listed bytes header ps e is =
    (passed (is_unmade (take 42 bytes)) (has_magic (take 42 bytes))
    (header_fault (length (take 42 bytes)) (header_of (take 42 bytes))) (header_of (take 42 bytes))
    (listed 0 42 (drop 42 bytes)) header ps e is).0

-- the parts of a good slot: its header, its records, its closed gate and what stands behind it
pub record GoodParts (bytes : List ℕ) (header : Header) (ps : List (List ℕ)) (end : ℕ) : Type 0 where
  pub head : List ℕ
  pub front : List ℕ
  pub gate : ℕ
  pub tail : List ℕ
  pub spelled : Spells front ps
  pub split : bytes ≡ (head ++ front) ++ gate ∷ tail
  pub shut : gate ≢ 1
  pub head_long : length head ≡ 42
  pub long : length (head ++ front) ≡ end
  pub stands : (rest : List ℕ) (qs : List (List ℕ)) (f : ℕ) → listed 0 42 rest ≡ Ends qs f → slot_state (head ++ rest) ≡ Good header qs f

pub good_parts : (bytes : List ℕ) (header : Header) (ps : List (List ℕ)) (e : ℕ) → slot_state bytes ≡ Good header ps e → GoodParts bytes header ps e
good_parts bytes header ps e is =
    let head = take 42 bytes in
    let both = passed (is_unmade (take 42 bytes)) (has_magic (take 42 bytes)) (header_fault (length (take 42 bytes)) (header_of (take 42 bytes))) (header_of (take 42 bytes)) (listed 0 42 (drop 42 bytes)) header ps e is in
    let p = parts (length (drop 42 bytes)) 42 (drop 42 bytes) ps e (omega arith) both.0 in
    let some : 0 < length (drop 42 bytes) = rw p.split (simp length-append (omega arith)) in
    let size : length (take 42 bytes) ≡ 42 = length-take 42 bytes ∙ omega (arith, length-drop 42 bytes) in
    record {
      head = take 42 bytes;
      front = p.front;
      gate = p.gate;
      tail = p.tail;
      spelled = p.spelled;
      split = sym (take-append-drop 42 bytes) ∙ (ap (λ (l : List ℕ). take 42 bytes ++ l) p.split ∙ sym (append_assoc (take 42 bytes) p.front (p.gate ∷ p.tail)));
      shut = p.shut;
      head_long = size;
      long = length-append (take 42 bytes) p.front ∙ omega (arith, p.reaches);
      stands = λ rest qs f lists.
          let first : take 42 (take 42 bytes ++ rest) ≡ take 42 bytes = take_at (take 42 bytes) rest 42 size in
          let second : drop 42 (take 42 bytes ++ rest) ≡ rest = drop_at (take 42 bytes) rest 42 size in
          rw (first, second, lists) (both.1 qs f);
    }

module _ (bytes : List ℕ) (header : Header) (ps : List (List ℕ)) (end : ℕ) (is : slot_state bytes ≡ Good header ps end) where
  -- the gate is in the slot
  pub gate_in : end < length bytes
  gate_in = let p = good_parts bytes header ps end is in rw p.split (simp length-append (omega (arith, p.long, length-append p.head p.front)))

  pub end_long : 42 ≤ end
  end_long = let p = good_parts bytes header ps end is in omega (arith, p.long, p.head_long, length-append p.head p.front)

  -- any closed gate there, whatever stands behind it
  pub shut_good : (gate : ℕ) (tail : List ℕ) → gate ≢ 1 → slot_state (take end bytes ++ gate ∷ tail) ≡ Good header ps end
  shut_good gate tail shut =
      let p = good_parts bytes header ps end is in
      let front : take end bytes ≡ p.head ++ p.front = ap (take end) p.split ∙ take_at (p.head ++ p.front) (p.gate ∷ p.tail) end p.long in
      let reach : 42 + length p.front ≡ end = omega (arith, p.long, p.head_long, length-append p.head p.front) in
      ap (λ (l : List ℕ). slot_state (l ++ gate ∷ tail)) front
      ∙ (ap slot_state (append_assoc p.head p.front (gate ∷ tail))
      ∙ p.stands (p.front ++ gate ∷ tail) ps end (listed-closed 42 gate p.front tail ps p.spelled shut ∙ ap (Ends ps) reach))

  -- the same front up to the gate
  pub same_good : (behind : List ℕ) → slot_state (take (end + 1) bytes ++ behind) ≡ Good header ps end
  same_good behind =
      let p = good_parts bytes header ps end is in
      let long : length ((p.head ++ p.front) ++ p.gate ∷ []) ≡ end + 1 = simp length-append (omega (arith, p.long, length-append p.head p.front)) in
      let whole : bytes ≡ ((p.head ++ p.front) ++ p.gate ∷ []) ++ p.tail = p.split ∙ sym (append_assoc (p.head ++ p.front) (p.gate ∷ []) p.tail) in
      let front : take (end + 1) bytes ≡ (p.head ++ p.front) ++ p.gate ∷ [] = ap (take (end + 1)) whole ∙ take_at ((p.head ++ p.front) ++ p.gate ∷ []) p.tail (end + 1) long in
      let first : take end bytes ≡ p.head ++ p.front = ap (take end) p.split ∙ take_at (p.head ++ p.front) (p.gate ∷ p.tail) end p.long in
      ap (λ (l : List ℕ). slot_state (l ++ behind)) (front ∙ ap (λ (l : List ℕ). l ++ p.gate ∷ []) (sym first))
      ∙ (ap slot_state (append_assoc (take end bytes) (p.gate ∷ []) behind) ∙ shut_good p.gate behind p.shut)
