use Rattle.std.proofs.Common.{Bor}
use Rattle.flow_model.specs.declared.trees.ActivityTree.{ActivityTree}
use Rattle.process_rules.specs.Said.{OfSaid}
use Rattle.process_rules.specs.Search.{looked_for}
use Rattle.text_graphs.specs.Attributes.{exit_said}
use Rattle.text_graphs.specs.Places.{AnyAt}
use Rattle.text_graphs.specs.Texts.{activities_in}
use Rattle.text_graphs.proofs.Finding.{least_more, least_behind}
use Rattle.process_rules.proofs.said.in_exits.Goals as goal

pub loop-activity-preserved : goal.loop-activity-preserved
loop-activity-preserved c =
    let scope = c.args.scope.now in
    let items = scope.activities.items in
    let less = rw c.deref-activity-items.ensures.value at c.loop-activity-test.true in
    let is = rw c.deref-activity-items.ensures.value at c.activity-item.is in
    least_more (λ (x : Bor ActivityTree). AnyAt (λ y. OfSaid (looked_for c.args.looked) (exit_said y.what)) x.now.attrs) items c.loop-activity.activity-index c.activity-item.result c.loop-activity.least c.in_activity.result c.lesser-least.result less is c.lesser-least.ensures.least c.loop-activity.invariant c.in_activity.ensures

pub returns : goal.returns
returns c =
    let scope = c.args.scope.now in
    let past = rw c.deref-activity-items.ensures.value at c.loop-activity-test.false in
    least_behind (λ (x : ActivityTree). AnyAt (λ y. OfSaid (looked_for c.args.looked) (exit_said y.what)) x.attrs) scope.activities.items c.loop-activity.activity-index (activities_in scope.elements.now) c.loop-activity.least past scope.with_activities c.loop-activity.invariant
