-- One element fewer of a list passes a test, and the element that a search found.
use Rattle.std.proofs.Common.{◌≡◌, ℕ, zero, suc, ◌+◌, Bool, true, false, List, [], ◌∷◌, Some, None, cond, ap, sym, ◌∙◌, arith}
use Rattle.std.specs.Prelude.{slice_get, slice_set, count_by, position}
use Rattle.std.proofs.lemmas.List.Sums.{sum_by-cons}
use Rattle.std.proofs.lemmas.List.Quantifiers.{position-Some}
use Rattle.navigator.proofs.Places.{present}

one_less : (b c : Bool) (n : ℕ) → b ≡ true → c ≡ false → cond c 1 0 + n + 1 ≡ cond b 1 0 + n
one_less true false n h i = omega arith
one_less true true n h i = let never : ⊥ = cc in absurd never
one_less false c n h i = let never : ⊥ = cc in absurd never

more_less : (b n m : ℕ) → n + 1 ≡ m → b + n + 1 ≡ b + m
more_less b n m h = omega arith

-- one element fewer passes the test
pub count_less : {X : Type 0} (p : X → Bool) (xs : List X) (i : ℕ) (x y : X) → slice_get xs i ≡ Some x → p x ≡ true → p y ≡ false
    → count_by p (slice_set xs i y) + 1 ≡ count_by p xs
count_less p [] i x y at passes fails = let never : None ≡ Some x = at in cc
count_less p (z ∷ zs) zero x y at passes fails =
    let same : z ≡ x = cc in
    let old : count_by p (z ∷ zs) ≡ cond (p z) 1 0 + count_by p zs = sum_by-cons (λ w. cond (p w) 1 0) z zs in
    let new : count_by p (slice_set (z ∷ zs) zero y) ≡ cond (p y) 1 0 + count_by p zs = sum_by-cons (λ w. cond (p w) 1 0) y zs in
    ap (λ n. n + 1) new ∙ one_less (p z) (p y) (count_by p zs) (ap p same ∙ passes) fails ∙ sym old
count_less p (z ∷ zs) (suc i) x y at passes fails =
    let rest = count_less p zs i x y at passes fails in
    let old : count_by p (z ∷ zs) ≡ cond (p z) 1 0 + count_by p zs = sum_by-cons (λ w. cond (p w) 1 0) z zs in
    let new : count_by p (slice_set (z ∷ zs) (suc i) y) ≡ cond (p z) 1 0 + count_by p (slice_set zs i y) = sum_by-cons (λ w. cond (p w) 1 0) z (slice_set zs i y) in
    ap (λ n. n + 1) new ∙ more_less (cond (p z) 1 0) (count_by p (slice_set zs i y)) (count_by p zs) rest ∙ sym old

-- an element stands where the search found one
pub found_at : {X : Type 0} (p : X → Bool) (xs : List X) (i : ℕ) → position p xs ≡ Some i → (x : X) × (slice_get xs i ≡ Some x)
found_at p [] i found = let n : ⊥ = cc in absurd n
found_at p (x ∷ xs) i found = present (x ∷ xs) i (position-Some p (x ∷ xs) i x found).0
