use Rattle.std.proofs.Common.{◌-◌, ◌≤◌, length}
use Rattle.number_map.specs.Rows.{IsAboveAll, IsBelowAll}
use Rattle.number_map.proofs.place.halved.Given as goal

-- the number is above all rows before `low`, and below all from `high` on
abbrev pub invariant-loop-low : goal.invariant-loop-low
invariant-loop-low g l =
    (l.low ≤ l.high) × (l.high ≤ length l.rows) × IsAboveAll l.number l.rows l.low
    × IsBelowAll l.number l.rows l.high

abbrev pub decreases-loop-low : goal.decreases-loop-low
decreases-loop-low g l = l.high - l.low
