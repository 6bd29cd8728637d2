use Rattle.std.proofs.Common.{List, ap, ◌∙◌}
use Rattle.std.proofs.lemmas.List.{take_all}
use Rattle.flow_model.specs.declared.trees.ElementTree.{ElementTree}
use Rattle.process_rules.specs.Calling.{callee_meant}
use Rattle.process_rules.specs.Shapes.{element_adds, graph_shape, named_shape, told_shape}
use Rattle.process_rules.proofs.Shaping.{graph_more}
use Rattle.process_rules.proofs.sizes.+shape.Goals as goal

pub graph_shape-loop-element-preserved : goal.graph_shape-loop-element-preserved
graph_shape-loop-element-preserved t c = λ before same.
    let known = c.args.known.now in
    graph_more (element_adds (named_shape (callee_meant known) known.catalog.now.library before c.args.process)) c.args.elements.now c.loop-element.element-index c.element-item.result c.loop-element.shape c.element_adds.result c.with-shape.result
    c.loop-element-test.true c.element-item.is c.with-shape.ensures (c.loop-element.invariant before same) (c.element_adds.ensures before same)

pub graph_shape-returns : goal.graph_shape-returns
graph_shape-returns t c = λ before same.
    let known = c.args.known.now in
    c.loop-element.invariant before same
    ∙ ap (λ (es : List ElementTree). told_shape (graph_shape (named_shape (callee_meant known) known.catalog.now.library before c.args.process) es)) (take_all c.loop-element.element-index c.args.elements.now c.loop-element-test.false)
