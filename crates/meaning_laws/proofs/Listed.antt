-- Lists of what a function has for the numbers from one on.
use Rattle.std.proofs.Common.{◌≡◌, ℕ, zero, suc, ◌+◌, ◌<◌, List, [], ◌∷◌, length, get_or, refl, ap, ◌∙◌, arith}

-- what a function has for this many numbers from n on
unfoldable pub listed : {X : Type 0} → (ℕ → X) → ℕ → ℕ → List X
listed f n zero = []
listed f n (suc count) = f n ∷ listed f (n + 1) count

-- there are as many
pub length_listed : {X : Type 0} (f : ℕ → X) (n count : ℕ) → length (listed f n count) ≡ count
unfolding listed
length_listed f n zero = refl
length_listed f n (suc count) = ap suc (length_listed f (n + 1) count)

-- each at its place
pub listed_at : {X : Type 0} (f : ℕ → X) (n count k : ℕ) (d : X) → k < count → get_or (listed f n count) k d ≡ f (n + k)
unfolding listed
listed_at f n zero k d less = absurd (omega (arith, less))
listed_at f n (suc count) zero d less = ap f (let e : n ≡ n + 0 = omega arith in e)
listed_at f n (suc count) (suc k) d less =
    listed_at f (n + 1) count k d (omega (arith, less)) ∙ ap f (let e : n + 1 + k ≡ n + suc k = omega arith in e)
