-- What a map ends as, where a `&mut` to one of its values is returned.
use Rattle.std.specs.Prelude.{◌≡◌, ℕ, ◌==◌, Option, Some, if◌then◌else◌}
use Rattle.std.specs.Borrow.{LendsSo, Fml, RattleType, MutBor}
use Rattle.std.specs.Option.{OnSome}
use Rattle.number_map.specs.Entries.{NumberMap, value_under}
use Rattle.number_map.specs.contracts.map.NumberMap.{the_row}

-- a map has this value under a number, and what it had under the others
abbrev pub HasWritten : {V : Type 0} → ℕ → NumberMap V → NumberMap V → V → Type 0
HasWritten number old new value =
    (other : ℕ) → value_under other new ≡ (if number == other then Some value else value_under other old)

-- once the borrow r ends, the number has the last value written through r; at `None` the map stays as it is
abbrev pub lends_get : (V : RattleType) → MutBor (NumberMap V.Denot) → ℕ → Option (MutBor V.Denot) → Fml
lends_get V s number r =
    LendsSo (the_row V) V s r (λ new value. OnSome r (HasWritten number s.now new value)) (λ new. new ≡ s.now)
