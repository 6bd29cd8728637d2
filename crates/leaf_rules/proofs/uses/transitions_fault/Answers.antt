use Rattle.std.proofs.Common.{Bor}
use Rattle.flow_model.specs.declared.trees.ControlTree.{ControlTree}
use Rattle.text_graphs.specs.Texts.{controls_in}
use Rattle.text_graphs.proofs.Finding.{least_more, least_behind}
use Rattle.leaf_rules.specs.Leaves.{table_leaves}
use Rattle.leaf_rules.specs.LeafUses.{IsInTransition}
use Rattle.leaf_rules.specs.Searches.{finds_of}
use Rattle.leaf_rules.proofs.uses.transitions_fault.Goals as goal

pub loop-control-preserved : goal.loop-control-preserved
loop-control-preserved c =
    let scope = c.args.scope.now in
    let less = rw c.deref-control-items.ensures.value at c.loop-control-test.true in
    let is = rw c.deref-control-items.ensures.value at c.control-item.is in
    least_more (λ (x : Bor ControlTree). IsInTransition (finds_of c.args.search) (table_leaves c.args.table.now) scope.elements.now x.now) scope.controls.items c.loop-control.control-index c.control-item.result c.loop-control.least
    c.transition_fault.result c.lesser-least.result less is c.lesser-least.ensures.least c.loop-control.invariant c.transition_fault.ensures

pub returns : goal.returns
returns c =
    let scope = c.args.scope.now in
    let past = rw c.deref-control-items.ensures.value at c.loop-control-test.false in
    least_behind (IsInTransition (finds_of c.args.search) (table_leaves c.args.table.now) scope.elements.now) scope.controls.items c.loop-control.control-index (controls_in scope.elements.now) c.loop-control.least past scope.with_controls
    c.loop-control.invariant
