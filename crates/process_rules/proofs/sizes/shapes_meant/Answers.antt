use Rattle.std.proofs.Common.{ℕ, Bor, List, map, length, ap, ◌∙◌, ◌≡◌, refl, arith}
use Rattle.std.proofs.lemmas.List.{length-map}
use Rattle.flow_model.specs.declared.trees.ElementTree.{ElementTree}
use Rattle.flow_model.specs.declared.trees.ProcessTree.{ProcessTree}
use Rattle.process_rules.specs.Calling.{callee_meant}
use Rattle.process_rules.specs.Shapes.{graph_shape, named_shape, shapes_to, told_shape}
use Rattle.process_rules.proofs.Numbering.{at_behind}
use Rattle.process_rules.proofs.Shaping.{shapes_next}
use Rattle.process_rules.proofs.sizes.shapes_meant.Goals as goal

pub loop-i-preserved : goal.loop-i-preserved
loop-i-preserved c =
    let known = c.args.known.now in
    let calls = callee_meant known in
    let library = known.catalog.now.library in
    let items = known.processes.items in
    let processes = map (λ (q : Bor ProcessTree). q.now) items in
    let i = c.loop-i.i in
    let x = c.process-item.result in
    let before = shapes_to calls library processes i in
    let less = rw c.processes-process-items.ensures at c.loop-i-test.true in
    let is = rw c.processes-process-items.ensures at c.process-item.is in
    let here = c.graph_shape-shape.ensures before (c.deref.ensures.value ∙ c.loop-i.invariant)
    ∙ ap (λ (n : ℕ). told_shape (graph_shape (named_shape calls library before n) c.as_slice.result.now)) c.in_ok-narrow.ensures
    ∙ ap (λ (es : List ElementTree). told_shape (graph_shape (named_shape calls library before i) es)) c.as_slice.ensures in
    shapes_next calls library processes i x.now c.loop-i.shapes.items c.push.new.self.items c.graph_shape-shape.result (at_behind items processes i x refl less is) c.in_ok-push.ensures.items c.loop-i.invariant here

pub returns : goal.returns
returns c =
    let known = c.args.known.now in
    let items = known.processes.items in
    let processes = map (λ (q : Bor ProcessTree). q.now) items in
    let past = rw c.processes-process-items.ensures at c.loop-i-test.false in
    let end = rw c.processes-process-items.ensures at c.loop-i.auto.i-end in
    let all : c.loop-i.i ≡ length processes = (let e = length-map items (λ (q : Bor ProcessTree). q.now) in omega arith) in
    c.loop-i.invariant ∙ ap (λ (n : ℕ). map told_shape (shapes_to (callee_meant known) known.catalog.now.library processes n)) all
