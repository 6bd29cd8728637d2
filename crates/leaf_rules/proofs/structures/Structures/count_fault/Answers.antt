use Rattle.std.proofs.Common.{Bor, refl}
use Rattle.flow_model.specs.declared.trees.StructDef.{StructDef}
use Rattle.text_graphs.proofs.Finding.{least_more, least_behind}
use Rattle.leaf_rules.specs.ArrayCounts.{HasCountOutside}
use Rattle.leaf_rules.specs.Structures.{behind}
use Rattle.leaf_rules.proofs.structures.Structures.count_fault.Goals as goal

pub loop-structure-preserved : goal.loop-structure-preserved
loop-structure-preserved c =
    let items = c.args.self.now.definitions.items in
    let less = rw c.deref-structure-items.ensures.value at c.loop-structure-test.true in
    let is = rw c.deref-structure-items.ensures.value at c.structure-item.is in
    least_more (λ (x : Bor StructDef). HasCountOutside x.now) items c.loop-structure.structure-index c.structure-item.result c.loop-structure.least c.count_in_structure.result c.lesser-least.result less is c.lesser-least.ensures.least
    c.loop-structure.invariant c.count_in_structure.ensures

pub returns : goal.returns
returns c =
    let items = c.args.self.now.definitions.items in
    let past = rw c.deref-structure-items.ensures.value at c.loop-structure-test.false in
    least_behind HasCountOutside items c.loop-structure.structure-index (behind items) c.loop-structure.least past refl c.loop-structure.invariant
