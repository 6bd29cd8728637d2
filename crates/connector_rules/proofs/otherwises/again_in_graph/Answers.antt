use Rattle.std.proofs.Common.{Bor, map, subst, ◌∙◌}
use Rattle.std.proofs.lemmas.List.{length-map, take_all}
use Rattle.flow_model.specs.declared.trees.ControlTree.{ControlTree}
use Rattle.connector_rules.specs.Connectors.{IsSameAgain, otherwise_source}
use Rattle.connector_rules.specs.EdgesMet.{AreOtherwisesMet}
use Rattle.text_graphs.specs.Places.{IsLeastOf, PairAt}
use Rattle.text_graphs.proofs.Finding.{taken_behind}
use Rattle.connector_rules.proofs.otherwises.again_in_graph.Goals as goal

pub loop-control-preserved : goal.loop-control-preserved
loop-control-preserved c =
    let items = c.args.scope.now.controls.items in
    let less = rw c.deref-control-items.ensures.value at c.loop-control-test.true in
    let is = rw c.deref-control-items.ensures.value at c.control-item.is in
    subst (AreOtherwisesMet c.args.scope.now.elements.now c.meet.new.self) (taken_behind items c.loop-control.control-index c.control-item.result less is) (c.in_ok-meet.ensures _ c.loop-control.invariant)

pub returns : goal.returns
returns c =
    let scope = c.args.scope.now in
    let past = rw c.deref-control-items.ensures.value at c.loop-control-test.false in
    let whole = take_all c.loop-control.control-index (map (λ (x : Bor ControlTree). x.now) scope.controls.items) (rw length-map past) ∙ scope.with_controls in
    subst (λ cs. IsLeastOf (PairAt (IsSameAgain (otherwise_source scope.elements.now)) cs) c.loop-control.sources.first) whole c.loop-control.invariant.least
