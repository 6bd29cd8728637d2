use Rattle.std.proofs.Common.{sym, ◌∙◌}
use Rattle.flow_model.specs.declared.trees.StructDef.{StructDef}
use Rattle.text_graphs.proofs.Naming.{met_old, met_new}
use Rattle.leaf_rules.proofs.structures.numbers_of.Goals as goal
use Rattle.leaf_rules.proofs.structures.numbers_of.Goals.{then-not-contains_key+in_ok-narrow+in_ok-insert, else-not-contains_key}

pub loop-i-preserved : goal.loop-i-preserved
loop-i-preserved c =
    let items = c.args.structures.now in
    let name = c.as_slice-name in
    let x = c.index-structures-i in
    elim c.if-not-contains_key.branch [
      | then-not-contains_key+in_ok-narrow+in_ok-insert w ↦
          rw w.numbers-is
          (met_new (λ (a : StructDef). a.name.name) items c.loop-i.i x.result c.loop-i-test.true x.is name.result.now name.ensures c.loop-i.numbers c.loop-i.invariant (sym c.contains_key.ensures ∙ w.if-not-contains_key.true)
          w.insert.new.self w.in_ok-narrow.field-0 w.in_ok-narrow.ensures w.in_ok-insert.ensures.updates)
      | else-not-contains_key w ↦
          rw w.numbers-is (met_old (λ (a : StructDef). a.name.name) items c.loop-i.i x.result c.loop-i-test.true x.is name.result.now name.ensures c.loop-i.numbers c.loop-i.invariant (sym c.contains_key.ensures ∙ w.if-not-contains_key.false))
    ]
