use Rattle.std.proofs.Common.{Bor}
use Rattle.flow_model.specs.declared.trees.ActivityTree.{ActivityTree}
use Rattle.process_rules.specs.Doers.{is_person, IsNoPerson}
use Rattle.text_graphs.specs.Places.{AnyAt}
use Rattle.text_graphs.specs.Texts.{activities_in}
use Rattle.text_graphs.proofs.Finding.{least_more, least_behind}
use Rattle.process_rules.proofs.doers.unknown_in_graph.Goals as goal

pub loop-activity-preserved : goal.loop-activity-preserved
loop-activity-preserved c = λ people are.
    let items = c.args.scope.now.activities.items in
    let less = rw c.deref-activity-items.ensures.value at c.loop-activity-test.true in
    let is = rw c.deref-activity-items.ensures.value at c.activity-item.is in
    least_more (λ (a : Bor ActivityTree). AnyAt (λ x. IsNoPerson (is_person c.args.known.now.catalog.now.library people) x.what) a.now.attrs) items c.loop-activity.activity-index c.activity-item.result c.loop-activity.least c.unknown_in_activity.result c.lesser-least.result less is c.lesser-least.ensures.least (c.loop-activity.invariant people are) (c.unknown_in_activity.ensures people are)

pub returns : goal.returns
returns c = λ people are.
    let scope = c.args.scope.now in
    let past = rw c.deref-activity-items.ensures.value at c.loop-activity-test.false in
    least_behind (λ (a : ActivityTree). AnyAt (λ x. IsNoPerson (is_person c.args.known.now.catalog.now.library people) x.what) a.attrs) scope.activities.items c.loop-activity.activity-index (activities_in scope.elements.now) c.loop-activity.least past scope.with_activities (c.loop-activity.invariant people are)
