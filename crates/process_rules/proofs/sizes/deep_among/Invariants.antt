use Rattle.std.proofs.Common.{◌≡◌, ◌<◌, List, map}
use Rattle.process_rules.specs.Shapes.{shape_at, told_shape}
use Rattle.process_rules.specs.declared.sizes.Shape.{Shape}
use Rattle.text_graphs.specs.Places.{IsLeastOf}
use Rattle.process_rules.proofs.Numbering.{NumberedBelow}
use Rattle.process_rules.proofs.sizes.deep_among.Given as goal

abbrev pub invariant-loop-i : goal.invariant-loop-i
invariant-loop-i l = (exact : List Shape) → l.shapes ≡ map told_shape exact → IsLeastOf (NumberedBelow (λ number p place. (16 < (shape_at exact number).depth) × (p.place ≡ place)) (map (λ p. p.now) l.processes) l.i) l.least
