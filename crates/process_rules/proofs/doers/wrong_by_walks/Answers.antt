use Rattle.std.proofs.Common.{ℕ, subst}
use Rattle.flow_model.specs.declared.trees.ActivityTree.{ActivityTree}
use Rattle.process_rules.specs.Doers.{IsNoPerformer}
use Rattle.text_graphs.specs.Places.{IsLeastOf, AnyAt}
use Rattle.text_graphs.specs.Texts.{activities_in}
use Rattle.process_rules.proofs.Numbering.{numbered_none, numbered_more, numbered_behind, at_behind}
use Rattle.process_rules.proofs.doers.wrong_by_walks.Goals as goal

pub loop-i-init : goal.loop-i-init
loop-i-init c =
    let elements = c.args.scope.now.elements.now in
    numbered_none (λ (n : ℕ) (a : ActivityTree). AnyAt (λ x. IsNoPerformer elements n x.what) a.attrs) (activities_in elements)

pub loop-i-preserved : goal.loop-i-preserved
loop-i-preserved c =
    let scope = c.args.scope.now in
    let elements = scope.elements.now in
    let a = c.activity-item.result in
    let less = rw c.deref-activity-items.ensures.value at c.loop-i-test.true in
    let is = rw c.deref-activity-items.ensures.value at c.activity-item.is in
    let found = subst (λ (n : ℕ). IsLeastOf (AnyAt (λ x. IsNoPerformer elements n x.what) a.now.attrs) c.wrong_in_activity.result) c.in_ok-narrow.ensures c.wrong_in_activity.ensures in
    numbered_more (λ (n : ℕ) (x : ActivityTree). AnyAt (λ y. IsNoPerformer elements n y.what) x.attrs) (activities_in elements) c.loop-i.i a.now c.loop-i.least c.wrong_in_activity.result c.lesser-least.result
    (at_behind scope.activities.items (activities_in elements) c.loop-i.i a scope.with_activities less is) c.lesser-least.ensures.least c.loop-i.invariant found

pub returns : goal.returns
returns c =
    let scope = c.args.scope.now in
    let elements = scope.elements.now in
    let past = rw c.deref-activity-items.ensures.value at c.loop-i-test.false in
    numbered_behind (λ (n : ℕ) (a : ActivityTree). AnyAt (λ x. IsNoPerformer elements n x.what) a.attrs) scope.activities.items (activities_in elements) c.loop-i.i c.loop-i.least past scope.with_activities c.loop-i.invariant
