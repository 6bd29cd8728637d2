use Rattle.std.proofs.Common.{ℕ, List, get_or, subst, ap, ◌∙◌}
use Rattle.flow_model.specs.declared.trees.ActivityTree.{ActivityTree}
use Rattle.process_rules.specs.Numbers.{IsSaidOutside, connectors_to}
use Rattle.text_graphs.specs.Places.{IsLeastOf, AnyAt}
use Rattle.text_graphs.specs.Texts.{activities_in}
use Rattle.process_rules.proofs.Numbering.{numbered_none, numbered_more, numbered_behind, at_behind}
use Rattle.process_rules.proofs.numbers.attributes_outside.Goals as goal

pub loop-i-init : goal.loop-i-init
loop-i-init c =
    let elements = c.args.scope.now.elements.now in
    numbered_none (λ (n : ℕ) (a : ActivityTree). AnyAt (λ x. IsSaidOutside (connectors_to elements n) x.what) a.attrs) (activities_in elements)

pub loop-i-preserved : goal.loop-i-preserved
loop-i-preserved c =
    let scope = c.args.scope.now in
    let elements = scope.elements.now in
    let a = c.activity-item.result in
    let less = rw c.deref-activity-items.ensures.value at c.loop-i-test.true in
    let is = rw c.deref-activity-items.ensures.value at c.activity-item.is in
    let count = c.count_at.ensures ∙ ap (λ (ks : List ℕ). get_or ks c.loop-i.i 0) c.deref.ensures.value ∙ c.in_ok-counts.ensures c.loop-i.i in
    let found = subst (λ (n : ℕ). IsLeastOf (AnyAt (λ x. IsSaidOutside n x.what) a.now.attrs) c.activity_outside.result) count c.activity_outside.ensures in
    numbered_more (λ (n : ℕ) (y : ActivityTree). AnyAt (λ x. IsSaidOutside (connectors_to elements n) x.what) y.attrs) (activities_in elements) c.loop-i.i a.now c.loop-i.least c.activity_outside.result c.lesser-least.result
    (at_behind scope.activities.items (activities_in elements) c.loop-i.i a scope.with_activities less is) c.lesser-least.ensures.least c.loop-i.invariant found

pub returns : goal.returns
returns c =
    let scope = c.args.scope.now in
    let elements = scope.elements.now in
    let past = rw c.deref-activity-items.ensures.value at c.loop-i-test.false in
    numbered_behind (λ (n : ℕ) (a : ActivityTree). AnyAt (λ x. IsSaidOutside (connectors_to elements n) x.what) a.attrs) scope.activities.items (activities_in elements) c.loop-i.i c.loop-i.least past scope.with_activities c.loop-i.invariant
