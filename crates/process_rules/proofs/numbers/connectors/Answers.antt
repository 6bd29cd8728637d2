use Rattle.std.proofs.Common.{Bor, arith, ◌∙◌}
use Rattle.flow_model.specs.declared.trees.ControlTree.{ControlTree}
use Rattle.process_rules.specs.Numbers.{is_to}
use Rattle.process_rules.proofs.Counted.{counted_room, counted_more, counted_all}
use Rattle.text_graphs.specs.Texts.{controls_in}
use Rattle.process_rules.proofs.numbers.connectors.Goals as goal

pub count_connector-requires-clause-room : goal.count_connector-requires-clause-room
count_connector-requires-clause-room c = λ n.
    let controls = c.args.scope.now.controls in
    let less = rw c.deref-control-items.ensures.value at c.loop-control-test.true in
    counted_room (λ (x : Bor ControlTree). is_to c.args.scope.now.elements.now n x.now) controls.items c.loop-control.control-index _ (c.loop-control.invariant.counted n) less (omega (arith, controls.ok.0, controls.ok.1, controls.small))

pub loop-control-preserved : goal.loop-control-preserved
loop-control-preserved c =
    let items = c.args.scope.now.controls.items in
    let less = rw c.deref-control-items.ensures.value at c.loop-control-test.true in
    let is = rw c.deref-control-items.ensures.value at c.control-item.is in
    record {
      wide = c.count_connector.ensures.len ∙ c.loop-control.invariant.wide;
      counted = λ n. counted_more (λ (x : Bor ControlTree). is_to c.args.scope.now.elements.now n x.now) items c.loop-control.control-index c.control-item.result _ _ less is (c.count_connector.ensures.counted n) (c.loop-control.invariant.counted n);
    }

pub returns : goal.returns
returns c = λ n.
    let scope = c.args.scope.now in
    let past = rw c.deref-control-items.ensures.value at c.loop-control-test.false in
    counted_all (is_to scope.elements.now n) scope.controls.items c.loop-control.control-index (controls_in scope.elements.now) _ past scope.with_controls (c.loop-control.invariant.counted n)
