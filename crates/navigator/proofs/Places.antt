-- What holds of each element of a list at its place, when the list gets longer or an element is replaced.
use Rattle.std.proofs.Common.{◌≤◌, ◌-◌, take, drop, ◌≡◌, ℕ, zero, suc, ◌+◌, List, [], ◌∷◌, ◌++◌, length, replicate, Some, None, refl, ap, ◌∙◌, subst, arith}
use Rattle.std.specs.Prelude.{slice_get, slice_set}
use Rattle.std.proofs.Common.{get_or, ◌<◌, get_or-set_same}
use Rattle.std.proofs.Math.ListN.{length-set}
use Rattle.std.proofs.lemmas.List.{take_all}
use Rattle.std.proofs.lemmas.Option.{slice_get_within, slice_get-get_or, get_or_from_slice_get}

-- a fact of each element at its place
abbrev pub Each : {X : Type 0} → (ℕ → X → Type 0) → List X → Type 0
Each {X} P xs = (a : ℕ) (x : X) → slice_get xs a ≡ Some x → P a x

pub each_none : {X : Type 0} (P : ℕ → X → Type 0) → Each P []
each_none P a x at = let never : None ≡ Some x = at in cc

pub each_push : {X : Type 0} (P : ℕ → X → Type 0) (xs : List X) (y : X) → Each P xs → P (length xs) y → Each P (xs ++ y ∷ [])
each_push P [] y before last zero x at = let e : y ≡ x = cc in subst (P 0) e last
each_push P [] y before last (suc a) x at = let never : None ≡ Some x = at in cc
each_push P (z ∷ zs) y before last zero x at = before zero x at
each_push P (z ∷ zs) y before last (suc a) x at = each_push (λ b. P (suc b)) zs y (λ b w there. before (suc b) w there) last a x at

pub replicate_more : {X : Type 0} (n : ℕ) (x : X) → replicate n x ++ x ∷ [] ≡ replicate (n + 1) x
replicate_more n x = go n ∙ ap (λ m. replicate m x) (let e : suc n ≡ n + 1 = omega arith in e)
  where
    go : (m : ℕ) → replicate m x ++ x ∷ [] ≡ replicate (suc m) x
    go zero = refl
    go (suc m) = ap (λ r. x ∷ r) (go m)

-- what is put at a place stands there
pub set_read : {X : Type 0} (xs : List X) (i : ℕ) (x y : X) → slice_get xs i ≡ Some x → slice_get (slice_set xs i y) i ≡ Some y
set_read xs i x y at =
    let less : i < length xs = slice_get_within xs i x at in
    let same : length (slice_set xs i y) ≡ length xs = simp length-set in
    let within : i < length (slice_set xs i y) = omega arith in
    slice_get-get_or (slice_set xs i y) i y within ∙ ap Some (get_or-set_same xs i y y less)

-- what is read at a place is what stands there
pub same_at : {X : Type 0} (xs : List X) (i : ℕ) (x y : X) → slice_get xs i ≡ Some x → y ≡ get_or xs i y → y ≡ x
same_at xs i x y at is = is ∙ get_or_from_slice_get xs i x y at

-- a place within a list has an element
pub present : {X : Type 0} (xs : List X) (i : ℕ) → i < length xs → (x : X) × (slice_get xs i ≡ Some x)
present [] i less = absurd (omega arith)
present (x ∷ xs) zero less = (x, refl)
present (x ∷ xs) (suc i) less = present xs i (omega arith)

-- a list is its first element and the rest
pub first_and_rest : {X : Type 0} (xs : List X) (x : X) → 1 ≤ length xs → x ≡ get_or xs 0 x → x ∷ take (length xs - 1) (drop 1 xs) ≡ xs
first_and_rest [] x long is = absurd (omega arith)
first_and_rest (y ∷ ys) x long is =
    let all : length ys ≤ suc (length ys) - 1 = omega arith in
    rw take_all (ap (λ z. z ∷ ys) is)
