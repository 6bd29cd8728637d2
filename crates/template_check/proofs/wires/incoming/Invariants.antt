use Rattle.std.proofs.Common.{◌≡◌, length}
use Rattle.std.specs.Prelude.{◌==◌}
use Rattle.template_check.proofs.Rows.{AreFilled}
use Rattle.template_check.proofs.wires.incoming.Given as goal

abbrev pub invariant-loop-i : goal.invariant-loop-i
invariant-loop-i l = (length l.rows ≡ l.count) × AreFilled (λ c a. c.to == a) l.controls l.i l.rows
