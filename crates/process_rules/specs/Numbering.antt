-- Places that the elements of a list have by their numbers.
use Rattle.std.specs.Prelude.{◌≡◌, ℕ, Some, List, slice_get}

-- it is a place of one of these elements, as its number tells
abbrev pub NumberedAt : {X : Type 0} → (ℕ → X → ℕ → Type 0) → List X → ℕ → Type 0
NumberedAt {X} places xs p = (n : ℕ) × (x : X) × (slice_get xs n ≡ Some x) × places n x p
