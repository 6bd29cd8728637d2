use Rattle.std.proofs.Common.{◌≡◌, List, map, take}
use Rattle.process_rules.specs.Calling.{callee_meant}
use Rattle.process_rules.specs.Shapes.{graph_shape, named_shape, told_shape}
use Rattle.process_rules.specs.declared.sizes.Shape.{Shape}
use Rattle.process_rules.proofs.sizes.+shape.Given as goal

abbrev pub invariant-graph_shape-loop-element : goal.invariant-graph_shape-loop-element
invariant-graph_shape-loop-element l =
    (before : List Shape) → l.shapes ≡ map told_shape before → l.shape ≡ told_shape (graph_shape (named_shape (callee_meant l.known) l.known.catalog.now.library before l.process) (take l.element-index l.elements))
