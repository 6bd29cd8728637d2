use Rattle.std.proofs.Common.{Bor}
use Rattle.flow_model.specs.declared.trees.ActivityTree.{ActivityTree}
use Rattle.text_graphs.proofs.Finding.{least_more, least_behind}
use Rattle.name_rules.specs.Names.{IsKindAgain}
use Rattle.text_graphs.specs.Places.{PairAt}
use Rattle.text_graphs.specs.Texts.{activities_in}
use Rattle.name_rules.proofs.names.second_attributes.Goals as goal

pub loop-activity-preserved : goal.loop-activity-preserved
loop-activity-preserved c =
    let items = c.args.scope.now.activities.items in
    let less = rw c.deref-activity-items.ensures.value at c.loop-activity-test.true in
    let is = rw c.deref-activity-items.ensures.value at c.activity-item.is in
    least_more (λ (x : Bor ActivityTree). (λ (a : ActivityTree). PairAt IsKindAgain a.attrs) x.now) items c.loop-activity.activity-index c.activity-item.result c.loop-activity.least c.second_attribute.result c.lesser-least.result less is c.lesser-least.ensures.least c.loop-activity.invariant (rw c.as_slice.ensures at c.second_attribute.ensures)

pub returns : goal.returns
returns c =
    let past = rw c.deref-activity-items.ensures.value at c.loop-activity-test.false in
    least_behind (λ (a : ActivityTree). PairAt IsKindAgain a.attrs) c.args.scope.now.activities.items c.loop-activity.activity-index (activities_in c.args.scope.now.elements.now) c.loop-activity.least past c.args.scope.now.with_activities c.loop-activity.invariant
