use Rattle.std.proofs.Common.{Bor}
use Rattle.flow_model.specs.declared.trees.ControlTree.{ControlTree}
use Rattle.process_rules.specs.Said.{OfSaid, when_said}
use Rattle.process_rules.specs.Search.{looked_for}
use Rattle.text_graphs.specs.Texts.{controls_in}
use Rattle.text_graphs.proofs.Finding.{least_more, least_behind}
use Rattle.process_rules.proofs.said.in_connectors.Goals as goal

pub loop-control-preserved : goal.loop-control-preserved
loop-control-preserved c =
    let scope = c.args.scope.now in
    let items = scope.controls.items in
    let less = rw c.deref-control-items.ensures.value at c.loop-control-test.true in
    let is = rw c.deref-control-items.ensures.value at c.control-item.is in
    least_more (λ (x : Bor ControlTree). OfSaid (looked_for c.args.looked) (when_said x.now.when)) items c.loop-control.control-index c.control-item.result c.loop-control.least c.in_connector.result c.lesser-least.result less is c.lesser-least.ensures.least c.loop-control.invariant c.in_connector.ensures

pub returns : goal.returns
returns c =
    let scope = c.args.scope.now in
    let past = rw c.deref-control-items.ensures.value at c.loop-control-test.false in
    least_behind (λ (x : ControlTree). OfSaid (looked_for c.args.looked) (when_said x.when)) scope.controls.items c.loop-control.control-index (controls_in scope.elements.now) c.loop-control.least past scope.with_controls c.loop-control.invariant
