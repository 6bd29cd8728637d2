-- A part of the bytes put at the front of a buffer.
use Rattle.std.proofs.Common.{◌≡◌, ℕ, ◌+◌, ◌-◌, ◌≤◌, List, ◌++◌, length, take, drop, min, arith, sym, ap, subst, ◌∙◌, take-append-drop, length-append}
use Rattle.std.proofs.lemmas.List.{length-take, length-drop, take_at, drop-drop}
use Rattle.flow_io.specs.Memory.{Tally, Supply, GivesFront}

-- a part of the bytes, by its length
copied_length : (bytes front : List ℕ) (at n : ℕ) → front ≡ take n (drop at bytes) → at + n ≤ length bytes → length front ≡ n
copied_length bytes front at n is fits = rw is (simp (length-take, length-drop) (omega arith))

-- the part that was copied, and what stands behind it, are the bytes from there on
pub copied_front : (bytes front buf : List ℕ) (at n : ℕ) → front ≡ take n (drop at bytes) → at + n ≤ length bytes → drop at bytes ≡ take n (front ++ drop n buf) ++ drop (at + n) bytes
copied_front bytes front buf at n is fits =
    let size = copied_length bytes front at n is fits in
    sym (ap (λ (l : List ℕ). l ++ drop (at + n) bytes) (take_at front (drop n buf) n size ∙ is)
    ∙ (ap (λ (l : List ℕ). take n (drop at bytes) ++ l) (sym (drop-drop n at bytes)) ∙ take-append-drop n (drop at bytes)))

-- a copy of a part gives the front of what was left
pub copy_gives_front : (old : Supply) (bytes front buf : List ℕ) (at n : ℕ) (calls : Tally) → record { left = drop at bytes; calls = calls } ≡ old → front ≡ take ((at + n) - at) (drop at bytes) → at ≤ length bytes → n ≡ min (length buf) (length bytes - at)
    → GivesFront old (record { left = drop (at + n) bytes; calls = calls }) (front ++ drop n buf) n
copy_gives_front old bytes front buf at n calls was copied within count =
    let is : front ≡ take n (drop at bytes) = copied ∙ ap (λ (k : ℕ). take k (drop at bytes)) (omega arith) in
    let size : length front ≡ n = copied_length bytes front at n is (omega arith) in
    let before : Supply = record { left = drop at bytes; calls = calls } in
    let gives : GivesFront before (record { left = drop (at + n) bytes; calls = calls }) (front ++ drop n buf) n =
    record {
      count_is = simp (length-append, length-drop) (omega arith);
      given = copied_front bytes front buf at n is (omega arith);
      after = ap (λ (l : List ℕ). record before { left = l }) (sym (drop-drop n at bytes));
    } in
    subst (λ (s : Supply). GivesFront s (record { left = drop (at + n) bytes; calls = calls }) (front ++ drop n buf) n) was gives
