use Rattle.std.proofs.Common.{Bor}
use Rattle.flow_model.specs.declared.trees.ActivityTree.{ActivityTree}
use Rattle.leaf_rules.specs.Structures.{behind, AreNoContainers}
use Rattle.text_graphs.specs.Texts.{activities_in}
use Rattle.text_graphs.proofs.Finding.{least_more, least_behind}
use Rattle.leaf_rules.proofs.structures.Structures.unknown_of_activities.Goals as goal

pub loop-activity-preserved : goal.loop-activity-preserved
loop-activity-preserved c =
    let items = c.args.scope.now.activities.items in
    let less = rw c.deref-activity-items.ensures.value at c.loop-activity-test.true in
    let is = rw c.deref-activity-items.ensures.value at c.activity-item.is in
    least_more (λ (x : Bor ActivityTree). AreNoContainers (behind c.args.self.now.definitions.items) x.now) items c.loop-activity.activity-index c.activity-item.result c.loop-activity.least c.unknown_of_two.result c.lesser-least.result less is c.lesser-least.ensures.least c.loop-activity.invariant c.unknown_of_two.ensures

pub returns : goal.returns
returns c =
    let past = rw c.deref-activity-items.ensures.value at c.loop-activity-test.false in
    least_behind (AreNoContainers (behind c.args.self.now.definitions.items)) (c.args.scope.now.activities.items) c.loop-activity.activity-index (activities_in c.args.scope.now.elements.now) c.loop-activity.least past c.args.scope.now.with_activities c.loop-activity.invariant
