use Rattle.std.proofs.Common.{ℕ, refl, ap, ◌∙◌}
use Rattle.std.proofs.lemmas.List.{map-append}
use Rattle.flow_model.specs.declared.graphs.Control.{Control}
use Rattle.leaf_rules.specs.Leaves.{table_leaves}
use Rattle.template_check.specs.Found.{IsControlFound}
use Rattle.template_check.specs.Meant.{NoneLeft, IsOne, IsControl}
use Rattle.text_graphs.specs.Texts.{edge_of, controls_in}
use Rattle.template_check.specs.Wires.{pairs_of}
use Rattle.template_check.proofs.Meaning.{parts_next, parts_all, seen_more, seen_all}
use Rattle.text_graphs.proofs.Judging.{read_behind}
use Rattle.text_graphs.proofs.Sorting.{chosen_next}
use Rattle.template_check.proofs.building.Builder.controls.Goals as goal

pub control-requires : goal.control-requires
control-requires c =
    let scope = c.args.scope.now in
    let less = rw c.deref-control-items.ensures.value at c.loop-control-test.true in
    let is = rw c.deref-control-items.ensures.value at c.control-item.is in
    read_behind (IsControlFound (table_leaves c.args.self.now.table) scope.elements.now) scope.controls.items (controls_in scope.elements.now) c.loop-control.control-index c.control-item.result scope.with_controls c.requires less is

pub loop-control-init : goal.loop-control-init
loop-control-init c = rw c.new-controls.ensures (record { ends = refl; meant = NoneLeft })

pub loop-control-preserved : goal.loop-control-preserved
loop-control-preserved c =
    let elements = c.args.scope.now.elements.now in
    let items = c.args.scope.now.controls.items in
    let control = c.control-item.result in
    let less = rw c.deref-control-items.ensures.value at c.loop-control-test.true in
    let is = rw c.deref-control-items.ensures.value at c.control-item.is in
    let i = c.loop-control.control-index in
    let so_far = c.loop-control.invariant in
    let made = c.in_ok-control.field-0 in
    let f : Control → ℕ × ℕ = λ d. (d.from, d.to) in
    let added = ap pairs_of c.in_ok-push.ensures.ok ∙ map-append f c.loop-control.controls _ in
    record {
      ends = chosen_next (edge_of elements) items i control less is (pairs_of c.loop-control.controls) (pairs_of c.push.new.self) (made.from, made.to) c.in_ok-control.ensures.ends added so_far.ends;
      meant = parts_next (IsOne (IsControl (table_leaves c.args.self.now.table) elements)) _ _ control.now c.loop-control.controls c.push.new.self made (seen_more items i control less is) c.in_ok-push.ensures.ok c.in_ok-control.ensures.meant so_far.meant;
    }

pub returns-clause-meant : goal.returns-clause-meant
returns-clause-meant c =
    let scope = c.args.scope.now in
    let past = rw c.deref-control-items.ensures.value at c.loop-control-test.false in
    parts_all (IsOne (IsControl (table_leaves c.args.self.now.table) scope.elements.now)) _ (controls_in scope.elements.now) c.loop-control.controls (seen_all scope.controls.items c.loop-control.control-index (controls_in scope.elements.now) past scope.with_controls) c.loop-control.invariant.meant
