use Rattle.std.proofs.Common.{Bor}
use Rattle.flow_model.specs.declared.trees.ActivityTree.{ActivityTree}
use Rattle.text_graphs.specs.Texts.{activities_in}
use Rattle.text_graphs.proofs.Finding.{least_more, least_behind}
use Rattle.leaf_rules.specs.Leaves.{table_leaves}
use Rattle.leaf_rules.specs.LeafUses.{IsInExit}
use Rattle.leaf_rules.specs.Searches.{finds_of}
use Rattle.leaf_rules.proofs.uses.exits_fault.Goals as goal

pub loop-activity-preserved : goal.loop-activity-preserved
loop-activity-preserved c =
    let less = rw c.deref-activity-items.ensures.value at c.loop-activity-test.true in
    let is = rw c.deref-activity-items.ensures.value at c.activity-item.is in
    least_more (λ (x : Bor ActivityTree). IsInExit (finds_of c.args.search) (table_leaves c.args.table.now) x.now) c.args.scope.now.activities.items c.loop-activity.activity-index c.activity-item.result c.loop-activity.least c.activity_fault.result
    c.lesser-least.result less is c.lesser-least.ensures.least c.loop-activity.invariant c.activity_fault.ensures

pub returns : goal.returns
returns c =
    let scope = c.args.scope.now in
    let past = rw c.deref-activity-items.ensures.value at c.loop-activity-test.false in
    least_behind (IsInExit (finds_of c.args.search) (table_leaves c.args.table.now)) scope.activities.items c.loop-activity.activity-index (activities_in scope.elements.now) c.loop-activity.least past scope.with_activities c.loop-activity.invariant
