use Rattle.std.proofs.Common.{◌≤◌, ◌-◌, length, take}
use Rattle.fdl_lexer.specs.Gaps.{IsGap}
use Rattle.fdl_lexer.proofs.gap.gap_len.Given as goal

abbrev pub invariant-loop-at : goal.invariant-loop-at
invariant-loop-at l = record { within : l.at ≤ length l.bytes; gap : IsGap (take l.at l.bytes) }

abbrev pub decreases-loop-at : goal.decreases-loop-at
decreases-loop-at l = length l.bytes - l.at
