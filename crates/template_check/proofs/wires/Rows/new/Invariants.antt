use Rattle.std.proofs.Common.{◌≡◌, [], replicate}
use Rattle.template_check.proofs.wires.Rows.new.Given as goal

abbrev pub invariant-loop-activity : goal.invariant-loop-activity
invariant-loop-activity l = l.rows.items ≡ replicate l._activity []
