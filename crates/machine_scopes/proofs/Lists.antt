-- Lists with an element that is put, read or added.
use Rattle.std.proofs.Common.{◌≡◌, ◌≢◌, ℕ, zero, suc, ◌+◌, ◌<◌, List, [], ◌∷◌, ◌++◌, map, length, Some, None}
use Rattle.std.proofs.Common.{refl, sym, ap, ap₂, ◌∙◌, arith}
use Rattle.flow_model.specs.ScopeContainers.{up_to}
use Rattle.std.specs.Prelude.{slice_get, slice_set}

pub set_itself : {X : Type 0} (xs : List X) (i : ℕ) (x : X) → slice_get xs i ≡ Some x → slice_set xs i x ≡ xs
set_itself [] i x at = refl
set_itself (y ∷ ys) zero x at = let e : y ≡ x = cc in ap (λ z. z ∷ ys) (sym e)
set_itself (y ∷ ys) (suc i) x at = ap (λ zs. y ∷ zs) (set_itself ys i x at)

pub map_put : {X Y : Type 0} (f : X → Y) (xs : List X) (i : ℕ) (x : X)
    → map f (slice_set xs i x) ≡ slice_set (map f xs) i (f x)
map_put f [] i x = refl
map_put f (y ∷ ys) zero x = refl
map_put f (y ∷ ys) (suc i) x = ap (λ zs. f y ∷ zs) (map_put f ys i x)

pub map_read : {X Y : Type 0} (f : X → Y) (xs : List X) (i : ℕ) (x : X) → slice_get xs i ≡ Some x
    → slice_get (map f xs) i ≡ Some (f x)
map_read f [] i x at = let never : None ≡ Some x = at in cc
map_read f (y ∷ ys) zero x at = let e : y ≡ x = cc in ap (λ z. Some (f z)) e
map_read f (y ∷ ys) (suc i) x at = map_read f ys i x at

pub map_none : {X Y : Type 0} (f : X → Y) (xs : List X) (i : ℕ) → slice_get xs i ≡ None → slice_get (map f xs) i ≡ None
map_none f [] i at = refl
map_none f (y ∷ ys) zero at = let never : Some y ≡ None = at in cc
map_none f (y ∷ ys) (suc i) at = map_none f ys i at

pub put_read : {X : Type 0} (xs : List X) (i : ℕ) (x y : X) → slice_get xs i ≡ Some x
    → slice_get (slice_set xs i y) i ≡ Some y
put_read [] i x y at = let never : None ≡ Some x = at in cc
put_read (z ∷ zs) zero x y at = refl
put_read (z ∷ zs) (suc i) x y at = put_read zs i x y at

pub put_other : {X : Type 0} (xs : List X) (i j : ℕ) (y : X) → j ≢ i → slice_get (slice_set xs i y) j ≡ slice_get xs j
put_other [] i j y apart = refl
put_other (x ∷ xs) zero zero y apart = absurd (apart refl)
put_other (x ∷ xs) zero (suc j) y apart = refl
put_other (x ∷ xs) (suc i) zero y apart = refl
put_other (x ∷ xs) (suc i) (suc j) y apart = put_other xs i j y (λ is. apart (ap suc is))

pub put_long : {X : Type 0} (xs : List X) (i : ℕ) (y : X) → length (slice_set xs i y) ≡ length xs
put_long [] i y = refl
put_long (x ∷ xs) zero y = refl
put_long (x ∷ xs) (suc i) y = ap suc (put_long xs i y)

pub push_long : {X : Type 0} (xs : List X) (y : X) → length (xs ++ y ∷ []) ≡ length xs + 1
push_long [] y = refl
push_long (x ∷ xs) y =
    let more = push_long xs y in ap suc more ∙ (let e : suc (length xs + 1) ≡ suc (length xs) + 1 = omega arith in e)

pub push_last : {X : Type 0} (xs : List X) (y : X) → slice_get (xs ++ y ∷ []) (length xs) ≡ Some y
push_last [] y = refl
push_last (x ∷ xs) y = push_last xs y

pub push_other : {X : Type 0} (xs : List X) (y : X) (j : ℕ) → j ≢ length xs
    → slice_get (xs ++ y ∷ []) j ≡ slice_get xs j
push_other [] y zero apart = absurd (apart refl)
push_other [] y (suc j) apart = refl
push_other (x ∷ xs) y zero apart = refl
push_other (x ∷ xs) y (suc j) apart = push_other xs y j (λ is. apart (ap suc is))

pub same_lists : {X : Type 0} (xs ys : List X) → length xs ≡ length ys
    → ((i : ℕ) (x y : X) → slice_get xs i ≡ Some x → slice_get ys i ≡ Some y → x ≡ y) → xs ≡ ys
same_lists [] [] long each = refl
same_lists [] (y ∷ ys) long each = absurd (let n : 0 ≡ suc (length ys) = long in omega arith)
same_lists (x ∷ xs) [] long each = absurd (let n : suc (length xs) ≡ 0 = long in omega arith)
same_lists (x ∷ xs) (y ∷ ys) long each =
    let n : suc (length xs) ≡ suc (length ys) = long in
    let rest = same_lists xs ys (omega (arith, n)) (λ i a b at there. each (suc i) a b at there) in
    ap₂ (λ z zs. z ∷ zs) (each zero x y refl refl) rest

pub present : {X : Type 0} (xs : List X) (i : ℕ) → i < length xs → (x : X) × (slice_get xs i ≡ Some x)
present [] i less = absurd (omega arith)
present (x ∷ xs) zero less = (x, refl)
present (x ∷ xs) (suc i) less = present xs i (omega arith)

pub within : {X : Type 0} (xs : List X) (i : ℕ) (x : X) → slice_get xs i ≡ Some x → i < length xs
within [] i x at = let never : None ≡ Some x = at in cc
within (y ∷ ys) zero x at = omega arith
within (y ∷ ys) (suc i) x at = let less = within ys i x at in omega (arith, less)

pub map_long : {X Y : Type 0} (f : X → Y) (xs : List X) → length (map f xs) ≡ length xs
map_long f [] = refl
map_long f (x ∷ xs) = ap suc (map_long f xs)

pub up_to_long : (n k : ℕ) → length (up_to n k) ≡ n
up_to_long zero k = refl
up_to_long (suc n) k = ap suc (up_to_long n (k + 1))

pub up_to_read : {Y : Type 0} (f : ℕ → Y) (n k i : ℕ) (y : Y) → slice_get (map f (up_to n k)) i ≡ Some y → y ≡ f (k + i)
up_to_read f zero k i y at = let never : None ≡ Some y = at in cc
up_to_read f (suc n) k zero y at = let e : f k ≡ y = cc in sym e ∙ ap f (let z : k ≡ k + 0 = omega arith in z)
up_to_read f (suc n) k (suc i) y at =
    up_to_read f n (k + 1) i y at ∙ ap f (let z : k + 1 + i ≡ k + suc i = omega arith in z)

pub map_found : {X Y : Type 0} (f : X → Y) (xs : List X) (i : ℕ) (y : Y) → slice_get (map f xs) i ≡ Some y → (x : X)
    × (slice_get xs i ≡ Some x) × (y ≡ f x)
map_found f [] i y at = let never : None ≡ Some y = at in cc
map_found f (x ∷ xs) zero y at = (x, refl, let e : f x ≡ y = cc in sym e)
map_found f (x ∷ xs) (suc i) y at = map_found f xs i y at
