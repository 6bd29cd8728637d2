use Rattle.std.proofs.Common.{◌≡◌, length}
use Rattle.fate_eval.proofs.passes.unshown.Given as goal

abbrev pub invariant-loop : goal.invariant-loop
invariant-loop l = length l.rows.items ≡ l.counter
