use Rattle.std.proofs.Common.{◌≡◌, length}
use Rattle.number_map.specs.Rows.{entries_of}
use Rattle.number_map.proofs.iter.IterIterator.next.Given as goal

-- only rows without a value were passed over
abbrev pub invariant-loop-row : goal.invariant-loop-row
invariant-loop-row g l = entries_of l.self-inside.rows.now ≡ l.fn.self

abbrev pub decreases-loop-row : goal.decreases-loop-row
decreases-loop-row g l = length l.self-inside.rows.now
