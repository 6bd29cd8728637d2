use Rattle.std.proofs.Common.{Bor}
use Rattle.flow_model.specs.declared.trees.ActivityTree.{ActivityTree}
use Rattle.process_rules.specs.Callees.{process_named, IsNoProcess}
use Rattle.process_rules.specs.Calling.{callee_meant}
use Rattle.text_graphs.specs.Texts.{activities_in}
use Rattle.text_graphs.proofs.Finding.{least_more, least_behind}
use Rattle.process_rules.proofs.callees.unknown_in_graph.Goals as goal

pub loop-activity-preserved : goal.loop-activity-preserved
loop-activity-preserved c =
    let scope = c.args.scope.now in
    let items = scope.activities.items in
    let less = rw c.deref-activity-items.ensures.value at c.loop-activity-test.true in
    let is = rw c.deref-activity-items.ensures.value at c.activity-item.is in
    least_more (λ (x : Bor ActivityTree). IsNoProcess (callee_meant c.args.known.now) c.args.scope.now.process (process_named x.now.work)) items c.loop-activity.activity-index c.activity-item.result c.loop-activity.least c.unknown_callee.result c.lesser-least.result less is c.lesser-least.ensures.least c.loop-activity.invariant c.unknown_callee.ensures

pub returns : goal.returns
returns c =
    let scope = c.args.scope.now in
    let past = rw c.deref-activity-items.ensures.value at c.loop-activity-test.false in
    least_behind (λ (x : ActivityTree). IsNoProcess (callee_meant c.args.known.now) c.args.scope.now.process (process_named x.work)) scope.activities.items c.loop-activity.activity-index (activities_in scope.elements.now) c.loop-activity.least past scope.with_activities c.loop-activity.invariant
