use Rattle.std.proofs.Common.{◌++◌, List, sym, ap, ◌∙◌, append-nil}
use Rattle.std.proofs.lemmas.List.{drop_all, length-map}
use Rattle.flow_model.specs.declared.trees.StructDef.{StructDef}
use Rattle.leaf_rules.specs.KindEdges.{edges_from, kind_edges}
use Rattle.leaf_rules.specs.Structures.{behind}
use Rattle.leaf_rules.proofs.Edging.{edges_next}
use Rattle.leaf_rules.proofs.structures.Structures.edges.Goals as goal

pub loop-i-preserved : goal.loop-i-preserved
loop-i-preserved c =
    let items = c.args.self.now.definitions.items in
    let structures = behind items in
    let less = rw c.deref-structure-items.ensures.value at c.loop-i-test.true in
    let is = rw c.deref-structure-items.ensures.value at c.structure-item.is in
    let added = rw c.in_ok-narrow-2.ensures at c.in_ok-add_kinds.ensures.added in (
      c.in_ok-add_kinds.ensures.nodes ∙ c.loop-i.invariant.0,
      edges_next structures items c.loop-i.i c.structure-item.result (kind_edges structures) c.loop-i.edges.pairs.items c.add_kinds.new.edges.pairs.items less is added c.loop-i.invariant.1,
    )

pub returns-clause-pairs : goal.returns-clause-pairs
returns-clause-pairs c =
    let structures = behind c.args.self.now.definitions.items in
    let past = rw c.deref-structure-items.ensures.value at c.loop-i-test.false in
    sym (append-nil c.loop-i.edges.pairs.items)
    ∙ ap (λ (ss : List StructDef). c.loop-i.edges.pairs.items ++ edges_from structures c.loop-i.i ss) (sym (drop_all c.loop-i.i structures (rw length-map past)))
    ∙ c.loop-i.invariant.1
