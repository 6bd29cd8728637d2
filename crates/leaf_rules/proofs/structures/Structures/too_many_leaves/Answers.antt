use Rattle.std.proofs.Common.{Bor, refl}
use Rattle.flow_model.specs.declared.trees.StructDef.{StructDef}
use Rattle.leaf_rules.specs.Counts.{IsLarge}
use Rattle.leaf_rules.specs.Structures.{behind}
use Rattle.text_graphs.proofs.Finding.{least_more, least_behind}
use Rattle.leaf_rules.proofs.Counting.{large_where}
use Rattle.leaf_rules.proofs.Cycles.{at_behind}
use Rattle.leaf_rules.proofs.structures.Structures.too_many_leaves.Goals as goal

pub loop-i-preserved : goal.loop-i-preserved
loop-i-preserved c =
    let items = c.args.self.now.definitions.items in
    let counts = c.args.self.now.counts.items in
    let i = c.loop-i.i in
    let x = c.structure-item.result in
    let less = rw c.deref-structure-items.ensures.value at c.loop-i-test.true in
    let is = rw c.deref-structure-items.ensures.value at c.structure-item.is in
    let found = rw c.deref.ensures.value at c.place_above.ensures in
    least_more (λ (y : Bor StructDef). IsLarge (behind items) y.now) items i x c.loop-i.least c.place_above.result c.lesser-least.result less is c.lesser-least.ensures.least c.loop-i.invariant
    (large_where (behind items) counts c.requires i x.now c.place_above.result (at_behind items i x less is) found)

pub returns : goal.returns
returns c =
    let items = c.args.self.now.definitions.items in
    let past = rw c.deref-structure-items.ensures.value at c.loop-i-test.false in
    least_behind (IsLarge (behind items)) items c.loop-i.i (behind items) c.loop-i.least past refl c.loop-i.invariant
