-- What a row ends as, where a `&mut` to its value is returned.
use Rattle.std.specs.Prelude.{Option, Some}
use Rattle.std.specs.Borrow.{LendsIf, Fml, RattleType, MutBor}
use Rattle.number_map.specs.declared.place.Row.{Row}
use Rattle.number_map.specs.contracts.place.Row.{the_row}

-- once the borrow r ends, the row has the last value written through r; at `None` it stays as it is
abbrev pub lends_value : (V : RattleType) → MutBor (Row V.Denot) → Option (MutBor V.Denot) → Fml
lends_value V s r = LendsIf (the_row V) V s r (λ value. record s.now { value = Some value }) s.now
