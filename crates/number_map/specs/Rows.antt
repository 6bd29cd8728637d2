-- The rows of a map, by rising number; one from which the value was taken away stays, without a value.
use Rattle.std.specs.Prelude.{◌≡◌, ℕ, ◌<◌, ◌≤◌, ◌==◌, Bool, false, Option, Some, None, List, [], ◌∷◌, length}
use Rattle.std.specs.Prelude.{slice_get, Result, Ok, Err, ⊤}
use Rattle.std.specs.Option.{is_some, option_map_or}
use Rattle.number_map.specs.declared.place.Row.{Row}

module _ {V : Type 0} where
  -- entries behind one of a number, where that has a value
  abbrev pub entry_before : ℕ → Option V → List (ℕ × V) → List (ℕ × V)
  entry_before number None entries = entries
  entry_before number (Some value) entries = (number, value) ∷ entries

  -- the entries of rows
  abbrev pub entries_of : List (Row V) → List (ℕ × V)
  entries_of [] = []
  entries_of (row ∷ rows) = entry_before row.number row.value (entries_of rows)

  -- a number is below those of all rows
  abbrev pub IsBelow : ℕ → List (Row V) → Type 0
  IsBelow number [] = ⊤
  IsBelow number (row ∷ rows) = (number < row.number) × IsBelow number rows

  -- the numbers rise
  abbrev pub IsRising : List (Row V) → Type 0
  IsRising [] = ⊤
  IsRising (row ∷ rows) = IsBelow row.number rows × IsRising rows

  -- all rows before a place have numbers below this one
  abbrev pub IsAboveAll : ℕ → List (Row V) → ℕ → Type 0
  IsAboveAll number rows place =
      (k : ℕ) (row : Row V) → k < place → slice_get rows k ≡ Some row → row.number < number

  -- all rows from a place on have numbers above this one
  abbrev pub IsBelowAll : ℕ → List (Row V) → ℕ → Type 0
  IsBelowAll number rows place =
      (k : ℕ) (row : Row V) → place ≤ k → slice_get rows k ≡ Some row → number < row.number

  -- a number stands at a place
  abbrev pub stands_at : List (Row V) → ℕ → ℕ → Bool
  stands_at rows number place = option_map_or (λ row. row.number == number) (slice_get rows place) false

  -- the place of a number, or at `Err` the one where it would stand
  abbrev pub IsPlace : ℕ → List (Row V) → Result ℕ ℕ → Type 0
  IsPlace number rows (Ok place) = (row : Row V) × (slice_get rows place ≡ Some row) × (row.number ≡ number)
  IsPlace number rows (Err place) = (place ≤ length rows) × IsAboveAll number rows place × IsBelowAll number rows place

  -- a row has a value
  abbrev pub has_value : Row V → Bool
  has_value row = is_some row.value
