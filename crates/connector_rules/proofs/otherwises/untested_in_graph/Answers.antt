use Rattle.std.proofs.Common.{Bor}
use Rattle.flow_model.specs.declared.trees.ControlTree.{ControlTree}
use Rattle.text_graphs.specs.Texts.{controls_in}
use Rattle.text_graphs.proofs.Finding.{least_more, least_behind}
use Rattle.connector_rules.specs.Connectors.{IsUntested}
use Rattle.connector_rules.proofs.otherwises.untested_in_graph.Goals as goal

pub loop-control-preserved : goal.loop-control-preserved
loop-control-preserved c =
    let items = c.args.scope.now.controls.items in
    let less = rw c.deref-control-items.ensures.value at c.loop-control-test.true in
    let is = rw c.deref-control-items.ensures.value at c.control-item.is in
    (c.loop-control.invariant.0, least_more (λ (x : Bor ControlTree). (IsUntested c.args.scope.now.elements.now) x.now) items c.loop-control.control-index c.control-item.result c.loop-control.least c.untested.result c.lesser-least.result less is c.lesser-least.ensures.least c.loop-control.invariant.1 c.untested.ensures)

pub returns : goal.returns
returns c =
    let past = rw c.deref-control-items.ensures.value at c.loop-control-test.false in
    least_behind (IsUntested c.args.scope.now.elements.now) c.args.scope.now.controls.items c.loop-control.control-index (controls_in c.args.scope.now.elements.now) c.loop-control.least past c.args.scope.now.with_controls c.loop-control.invariant.1
