use Rattle.std.proofs.Common.{Bor, refl}
use Rattle.flow_model.specs.declared.trees.StructDef.{StructDef}
use Rattle.leaf_rules.specs.Structures.{behind, AreNoKinds}
use Rattle.text_graphs.proofs.Finding.{least_more, least_behind}
use Rattle.leaf_rules.proofs.structures.Structures.unknown_members.Goals as goal

pub loop-structure-preserved : goal.loop-structure-preserved
loop-structure-preserved c =
    let items = c.args.self.now.definitions.items in
    let less = rw c.deref-structure-items.ensures.value at c.loop-structure-test.true in
    let is = rw c.deref-structure-items.ensures.value at c.structure-item.is in
    least_more (λ (x : Bor StructDef). AreNoKinds (behind c.args.self.now.definitions.items) x.now) items c.loop-structure.structure-index c.structure-item.result c.loop-structure.least c.unknown_member.result c.lesser-least.result less is c.lesser-least.ensures.least c.loop-structure.invariant c.unknown_member.ensures

pub returns : goal.returns
returns c =
    let past = rw c.deref-structure-items.ensures.value at c.loop-structure-test.false in
    least_behind (AreNoKinds (behind c.args.self.now.definitions.items)) (c.args.self.now.definitions.items) c.loop-structure.structure-index (behind c.args.self.now.definitions.items) c.loop-structure.least past refl c.loop-structure.invariant
