use Rattle.std.proofs.Common.{Bor, map, ap, subst, ◌∙◌}
use Rattle.flow_model.specs.declared.trees.ActivityTree.{ActivityTree}
use Rattle.text_graphs.specs.Meeting.{IsAgainAt}
use Rattle.text_graphs.specs.Places.{IsLeastOf, PairAt}
use Rattle.text_graphs.proofs.Meetings.{name_next, names_all, names_behind}
use Rattle.name_rules.proofs.names.second_activity.Goals as goal

pub loop-activity-preserved : goal.loop-activity-preserved
loop-activity-preserved c =
    let items = c.args.scope.now.activities.items in
    let less = rw c.deref-activity-items.ensures.value at c.loop-activity-test.true in
    let is = rw c.deref-activity-items.ensures.value at c.activity-item.is in
    name_next (λ (a : Bor ActivityTree). a.now.name) items c.loop-activity.activity-index c.activity-item.result less is c.meet.new.self (c.in_ok-meet.ensures _ c.loop-activity.invariant)

pub returns : goal.returns
returns c =
    let scope = c.args.scope.now in
    let past = rw c.deref-activity-items.ensures.value at c.loop-activity-test.false in
    let whole = names_behind (λ (a : ActivityTree). a.name) scope.activities.items ∙ ap (map (λ (a : ActivityTree). a.name)) scope.with_activities in
    subst (λ ns. IsLeastOf (PairAt IsAgainAt ns) c.first.result) whole
    (names_all (λ (a : Bor ActivityTree). a.now.name) scope.activities.items c.loop-activity.activity-index c.loop-activity.activities c.first.result past c.first.ensures c.loop-activity.invariant)
