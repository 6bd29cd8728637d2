use Rattle.std.proofs.Common.{◌≡◌, length}
use Rattle.std.specs.Prelude.{◌==◌}
use Rattle.template_check.proofs.Rows.{AreFilled}
use Rattle.template_check.proofs.wires.looping.Given as goal

abbrev pub invariant-loop-i : goal.invariant-loop-i
invariant-loop-i l = (length l.rows ≡ l.count) × AreFilled (λ line a. line.activity == a) l.loops l.i l.rows
