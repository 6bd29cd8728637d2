-- The front of a slot that is made.
use Rattle.std.proofs.Common.{◌≡◌, ◌≢◌, ◌⊎◌, inl, inr, ℕ, ◌^◌, Bool, true, false, ◌&&◌, ◌||◌, not, ◌==◌, nat_eq, nat_le, List, [], ◌∷◌, ◌++◌, length, take, drop, None, codes, refl, ap, ◌∙◌, arith}
use Rattle.std.proofs.lemmas.Bool.{ne_eqb, le-leb}
use Rattle.std.proofs.lemmas.List.{take_at, drop_at}
use Rattle.std.proofs.lemmas.Nat.{from_be_bytes-to_be_bytes_8}
use Rattle.std.specs.List.{starts_with}
use Rattle.txn_log.specs.declared.header.Header.{Header}
use Rattle.txn_log.specs.Stored.{Ends, listed, Unmade, Good, is_unmade, has_magic, header_of, header_fault, slot_state, header_text, InRange}

by_last : (a b c : Bool) → c ≡ true → (a || (b || c)) ≡ true
by_last true b c is = refl
by_last false true c is = refl
by_last false false c is = is

by_middle : (a b c : Bool) → b ≡ true → (a || (b || c)) ≡ true
by_middle true b c is = refl
by_middle false true c is = refl
by_middle false false c is = absurd (cc)

unmade_zero : (rest : List ℕ) → is_unmade (0 ∷ rest) ≡ true
unfolding is_unmade
unmade_zero rest = by_middle (nat_le (length (0 ∷ rest)) 1) true (starts_with nat_eq rest (codes "FLOWSTR") && true) refl

unmade_magic : (gate : ℕ) (rest : List ℕ) → gate ≢ 1 → is_unmade ((gate ∷ codes "FLOWSTR") ++ rest) ≡ true
unfolding is_unmade
unmade_magic gate rest shut =
    let test : (gate == 1) ≡ false = ne_eqb gate 1 shut in
    by_last (nat_le (length ((gate ∷ codes "FLOWSTR") ++ rest)) 1) (gate == 0) (not (gate == 1)) (rw test refl)

pub unmade_front : (gate : ℕ) (magic behind : List ℕ) (from : ℕ) → gate ≢ 1 → ((from ≡ 1) × (magic ≡ []) × (gate ≡ 0)) ⊎ ((from ≡ 8) × (magic ≡ codes "FLOWSTR")) → slot_state ((gate ∷ magic) ++ behind) ≡ Unmade
unmade_front gate magic behind from shut (inl k) = rw (k.1, k.2) (rw (unmade_zero (take 41 behind)) refl)
unmade_front gate magic behind from shut (inr k) = rw k.1 (rw (unmade_magic gate (take 34 behind) shut) refl)

header_long : (gate : ℕ) (h : Header) → length (gate ∷ header_text h) ≡ 42
unfolding header_text
header_long gate h = refl

made_closed : (gate : ℕ) (h : Header) → gate ≢ 1 → is_unmade (gate ∷ header_text h) ≡ true
unfolding is_unmade header_text
made_closed gate h shut =
    let test : (gate == 1) ≡ false = ne_eqb gate 1 shut in
    by_last false (gate == 0) (not (gate == 1)) (rw test refl)

made_open : (h : Header) → is_unmade (1 ∷ header_text h) ≡ false
unfolding is_unmade header_text
made_open h = refl

made_magic : (gate : ℕ) (h : Header) → has_magic (gate ∷ header_text h) ≡ true
unfolding has_magic header_text
made_magic gate h = refl

made_header : (gate : ℕ) (h : Header) → InRange h → header_of (gate ∷ header_text h) ≡ h
unfolding header_of header_text
made_header gate h r = λ i. record {
  generation = from_be_bytes-to_be_bytes_8 h.generation (omega (arith, r.generation_high)) i;
  queues = h.queues;
  limit = from_be_bytes-to_be_bytes_8 h.limit (omega (arith, r.limit_high)) i;
  transactions = from_be_bytes-to_be_bytes_8 h.transactions (omega (arith, r.transactions_high, r.limit_high)) i;
  roots = from_be_bytes-to_be_bytes_8 h.roots (omega (arith, r.roots_high, r.transactions_high, r.limit_high)) i;
}

faultless : (h : Header) → InRange h → header_fault 42 h ≡ None
unfolding header_fault
faultless h r =
    let transactions : nat_le 0 h.transactions ≡ true = le-leb 0 h.transactions (omega arith) in
    let roots : nat_le 0 h.roots ≡ true = le-leb 0 h.roots (omega arith) in
    rw (le-leb 1 h.generation r.generation_low, le-leb h.generation (2 ^ 62) r.generation_high, le-leb 1 h.queues r.queues_low, le-leb h.queues 16 r.queues_high, le-leb 1 h.limit r.limit_low, le-leb h.limit 10000000 r.limit_high, transactions, le-leb h.transactions h.limit r.transactions_high, roots, le-leb h.roots h.transactions r.roots_high) refl

pub made_unmade : (gate : ℕ) (h : Header) (rest : List ℕ) → gate ≢ 1 → slot_state ((gate ∷ header_text h) ++ rest) ≡ Unmade
made_unmade gate h rest shut =
    let first : take 42 ((gate ∷ header_text h) ++ rest) ≡ gate ∷ header_text h = take_at (gate ∷ header_text h) rest 42 (header_long gate h) in
    let closed : is_unmade (gate ∷ header_text h) ≡ true = made_closed gate h shut in
    rw (first, closed) refl

pub made_good : (h : Header) (rest : List ℕ) (ps : List (List ℕ)) (e : ℕ) → InRange h → listed 0 42 rest ≡ Ends ps e → slot_state ((1 ∷ header_text h) ++ rest) ≡ Good h ps e
made_good h rest ps e range lists =
    let first : take 42 ((1 ∷ header_text h) ++ rest) ≡ 1 ∷ header_text h = take_at (1 ∷ header_text h) rest 42 (header_long 1 h) in
    let second : drop 42 ((1 ∷ header_text h) ++ rest) ≡ rest = drop_at (1 ∷ header_text h) rest 42 (header_long 1 h) in
    let opened : is_unmade (1 ∷ header_text h) ≡ false = made_open h in
    let magic : has_magic (1 ∷ header_text h) ≡ true = made_magic 1 h in
    let head : header_of (1 ∷ header_text h) ≡ h = made_header 1 h range in
    let none : header_fault (length (take 42 ((1 ∷ header_text h) ++ rest))) h ≡ None = ap (λ (n : ℕ). header_fault n h) (ap length first ∙ header_long 1 h) ∙ faultless h range in
    rw (first, second, opened, magic, head, none, lists) refl
