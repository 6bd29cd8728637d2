use Rattle.std.proofs.Common.{Bor}
use Rattle.flow_model.specs.declared.trees.ControlTree.{ControlTree}
use Rattle.text_graphs.specs.Texts.{controls_in}
use Rattle.text_graphs.proofs.Finding.{least_more, least_behind}
use Rattle.connector_rules.specs.Connectors.{IsClosing}
use Rattle.connector_rules.proofs.Nowhere.{contains_read}
use Rattle.connector_rules.proofs.connectors.cycle_in_graph.Goals as goal

pub loop-control-preserved : goal.loop-control-preserved
loop-control-preserved c =
    let items = c.args.scope.now.controls.items in
    let less = rw c.deref-control-items.ensures.value at c.loop-control-test.true in
    let is = rw c.deref-control-items.ensures.value at c.control-item.is in
    least_more (λ (x : Bor ControlTree). (IsClosing c.args.scope.now.elements.now) x.now) items c.loop-control.control-index c.control-item.result c.loop-control.least c.closing.result c.lesser-least.result less is c.lesser-least.ensures.least c.loop-control.invariant c.closing.ensures

pub returns : goal.returns
returns c =
    let past = rw c.deref-control-items.ensures.value at c.loop-control-test.false in
    least_behind (IsClosing c.args.scope.now.elements.now) c.args.scope.now.controls.items c.loop-control.control-index (controls_in c.args.scope.now.elements.now) c.loop-control.least past c.args.scope.now.with_controls c.loop-control.invariant

pub closing-requires-clause-listed : goal.closing-requires-clause-listed
closing-requires-clause-listed c =
    let items = c.args.scope.now.controls.items in
    let less = rw c.deref-control-items.ensures.value at c.loop-control-test.true in
    let is = rw c.deref-control-items.ensures.value at c.control-item.is in
    contains_read items (controls_in c.args.scope.now.elements.now) c.loop-control.control-index c.control-item.result c.args.scope.now.with_controls less is
