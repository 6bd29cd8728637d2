use Rattle.flow_model.specs.declared.trees.AttrAt.{AttrAt}
use Rattle.text_graphs.specs.Attributes.{exit_said}
use Rattle.text_graphs.proofs.Finding.{least_more, least_all}
use Rattle.leaf_rules.specs.Leaves.{with_code, table_leaves}
use Rattle.leaf_rules.specs.LeafUses.{IsInCond}
use Rattle.leaf_rules.specs.Searches.{finds_of}
use Rattle.leaf_rules.proofs.uses.activity_fault.Goals as goal

pub loop-attribute-preserved : goal.loop-attribute-preserved
loop-attribute-preserved c =
    let activity = c.args.activity.now in
    let less = rw c.as_slice-attribute-items.ensures at c.loop-attribute-test.true in
    let is = rw c.as_slice-attribute-items.ensures at c.attribute-item.is in
    least_more (λ (x : AttrAt). IsInCond (finds_of c.args.search) (with_code (table_leaves c.args.table.now activity.output.name)) (exit_said x.what)) activity.attrs c.loop-attribute.attribute-index c.attribute-item.result c.loop-attribute.least
    c.exit_fault.result c.lesser-least.result less is c.lesser-least.ensures.least c.loop-attribute.invariant c.exit_fault.ensures

pub returns : goal.returns
returns c =
    let activity = c.args.activity.now in
    let past = rw c.as_slice-attribute-items.ensures at c.loop-attribute-test.false in
    least_all (λ (x : AttrAt). IsInCond (finds_of c.args.search) (with_code (table_leaves c.args.table.now activity.output.name)) (exit_said x.what)) activity.attrs c.loop-attribute.attribute-index c.loop-attribute.least past
    c.loop-attribute.invariant
