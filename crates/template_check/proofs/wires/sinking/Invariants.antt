use Rattle.std.proofs.Common.{◌≡◌, ◌++◌, drop}
use Rattle.flow_model.specs.ScopeContainers.{same_end}
use Rattle.flow_model.specs.Wiring.{places}
use Rattle.flow_model.specs.declared.graphs.MapEnd.TheVariants.{Border}
use Rattle.template_check.proofs.wires.sinking.Given as goal

abbrev pub invariant-loop-i : goal.invariant-loop-i
invariant-loop-i l = l.places ++ places (λ line. same_end line.to Border) l.i (drop l.i l.lines) ≡ places (λ line. same_end line.to Border) 0 l.lines
