use Rattle.std.proofs.Common.{◌≡◌, length}
use Rattle.flow_model.specs.ScopeContainers.{same_end}
use Rattle.flow_model.specs.declared.graphs.MapEnd.TheVariants.{Activity as At}
use Rattle.template_check.proofs.Rows.{AreFilled}
use Rattle.template_check.proofs.wires.feeding.Given as goal

abbrev pub invariant-loop-i : goal.invariant-loop-i
invariant-loop-i l = (length l.rows ≡ l.count) × AreFilled (λ line a. same_end line.to (At a)) l.lines l.i l.rows
