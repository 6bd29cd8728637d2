use Rattle.std.proofs.Common.{◌≡◌, length}
use Rattle.std.specs.Prelude.{◌==◌}
use Rattle.template_check.proofs.Rows.{AreFilled}
use Rattle.template_check.proofs.wires.outgoing.Given as goal

abbrev pub invariant-loop-i : goal.invariant-loop-i
invariant-loop-i l = (length l.rows ≡ l.count) × AreFilled (λ c a. c.from == a) l.controls l.i l.rows
