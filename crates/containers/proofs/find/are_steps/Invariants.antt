use Rattle.std.proofs.Common.{◌≡◌, drop}
use Rattle.containers.specs.Named.{names_leaf}
use Rattle.containers.proofs.find.are_steps.Given as goal

abbrev pub invariant-loop-step : goal.invariant-loop-step
invariant-loop-step l = names_leaf (drop l.step-index l.written) l.rest ≡ names_leaf l.written l.fn.steps
