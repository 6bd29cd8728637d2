use Rattle.std.proofs.Common.{◌≡◌, map}
use Rattle.process_rules.specs.Calling.{callee_meant}
use Rattle.process_rules.specs.Shapes.{shapes_to, told_shape}
use Rattle.process_rules.proofs.sizes.shapes_meant.Given as goal

abbrev pub invariant-loop-i : goal.invariant-loop-i
invariant-loop-i l = l.shapes.items ≡ map told_shape (shapes_to (callee_meant l.known) l.known.catalog.now.library (map (λ p. p.now) l.known.processes.items) l.i)
