-- The places of a text that break a rule, and the least of them.
use Rattle.std.specs.Prelude.{ℕ, ◌≤◌, min, Option, Some, None, List, [], ◌∷◌, ◌⊎◌}

-- what is found is the least of these places, or nothing where there is none
abbrev pub IsLeastOf : (ℕ → Type 0) → Option ℕ → Type 0
IsLeastOf places None = (p : ℕ) → places p → ⊥
IsLeastOf places (Some p) = places p × ((q : ℕ) → places q → p ≤ q)

-- it is a place of one of these elements
abbrev pub AnyAt : {X : Type 0} → (X → ℕ → Type 0) → List X → ℕ → Type 0
AnyAt places [] p = ⊥
AnyAt places (x ∷ xs) p = places x p ⊎ AnyAt places xs p

-- it is a place of an element and a later one
abbrev pub PairAt : {X : Type 0} → (X → X → ℕ → Type 0) → List X → ℕ → Type 0
PairAt places [] p = ⊥
PairAt places (x ∷ xs) p = AnyAt (places x) xs p ⊎ PairAt places xs p

-- the lesser of two places, where there are any
abbrev pub lesser_of : Option ℕ → Option ℕ → Option ℕ
lesser_of None second = second
lesser_of (Some a) None = Some a
lesser_of (Some a) (Some b) = Some (min a b)
