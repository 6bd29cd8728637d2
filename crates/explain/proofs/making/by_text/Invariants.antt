use Rattle.std.proofs.Common.{◌≡◌, ℕ, List, take}
use Rattle.explain.specs.Shown.{fate_at, fate_in}
use Rattle.explain.proofs.making.by_text.Given as goal

-- so it is of the rows so far
abbrev pub invariant-loop-row : goal.invariant-loop-row
invariant-loop-row l = (text : List ℕ) → fate_at l.fates text ≡ fate_in (take l.row-index l.rows) text
