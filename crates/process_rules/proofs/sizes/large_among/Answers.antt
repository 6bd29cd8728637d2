use Rattle.std.proofs.Common.{◌≡◌, ◌<◌, ℕ, Bor, map, refl}
use Rattle.flow_model.specs.declared.trees.ProcessTree.{ProcessTree}
use Rattle.process_rules.specs.Shapes.{shape_at}
use Rattle.process_rules.proofs.Numbering.{numbered_none, numbered_more, numbered_behind, at_behind}
use Rattle.process_rules.proofs.Shaping.{nth_told}
use Rattle.process_rules.proofs.sizes.large_among.Goals as goal

pub loop-i-init : goal.loop-i-init
loop-i-init c = λ exact same. numbered_none (λ (number : ℕ) (p : ProcessTree) (place : ℕ). (65536 < (shape_at exact number).size) × (p.place ≡ place)) (map (λ (q : Bor ProcessTree). q.now) c.args.processes.now)

pub loop-i-preserved : goal.loop-i-preserved
loop-i-preserved c = λ exact same.
    let items = c.args.processes.now in
    let x = c.index-processes-i.result in
    let told = nth_told c.args.shapes.now exact c.loop-i.i c.nth_shape.result same c.nth_shape.ensures in
    numbered_more (λ (number : ℕ) (p : ProcessTree) (place : ℕ). (65536 < (shape_at exact number).size) × (p.place ≡ place)) (map (λ (q : Bor ProcessTree). q.now) items) c.loop-i.i x.now c.loop-i.least c.large_place.result c.lesser-least.result
    (at_behind items (map (λ (q : Bor ProcessTree). q.now) items) c.loop-i.i x refl c.loop-i-test.true c.index-processes-i.is) c.lesser-least.ensures.least (c.loop-i.invariant exact same) (c.large_place.ensures (shape_at exact c.loop-i.i) told)

pub returns : goal.returns
returns c = λ exact same.
    let items = c.args.processes.now in
    numbered_behind (λ (number : ℕ) (p : ProcessTree) (place : ℕ). (65536 < (shape_at exact number).size) × (p.place ≡ place)) items (map (λ (q : Bor ProcessTree). q.now) items) c.loop-i.i c.loop-i.least c.loop-i-test.false refl (c.loop-i.invariant exact same)
