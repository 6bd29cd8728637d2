use Rattle.std.proofs.Common.{ℕ, ◌<◌, ◌≤◌}
use Rattle.fdl_lexer.specs.Gaps.{EndsAt}
use Rattle.fdl_lexer.proofs.gap.comment_len.Given as goal

abbrev pub invariant-loop-place : goal.invariant-loop-place
invariant-loop-place l = (j : ℕ) → 2 ≤ j → j < l.place → EndsAt l.bytes j → ⊥
