use Rattle.flow_model.specs.declared.trees.AttrAt.{AttrAt}
use Rattle.process_rules.specs.Said.{OfSaid}
use Rattle.process_rules.specs.Search.{looked_for}
use Rattle.text_graphs.specs.Attributes.{exit_said}
use Rattle.text_graphs.proofs.Finding.{least_more, least_all}
use Rattle.process_rules.proofs.said.in_activity.Goals as goal

pub loop-attribute-preserved : goal.loop-attribute-preserved
loop-attribute-preserved c =
    let items = c.as_slice-attribute-items.result.now in
    least_more (λ (x : AttrAt). OfSaid (looked_for c.args.looked) (exit_said x.what)) items c.loop-attribute.attribute-index c.attribute-item.result c.loop-attribute.least c.in_attribute.result c.lesser-least.result c.loop-attribute-test.true c.attribute-item.is c.lesser-least.ensures.least c.loop-attribute.invariant c.in_attribute.ensures

pub returns : goal.returns
returns c =
    let items = c.as_slice-attribute-items.result.now in
    rw c.as_slice-attribute-items.ensures at
    (least_all (λ (x : AttrAt). OfSaid (looked_for c.args.looked) (exit_said x.what)) items c.loop-attribute.attribute-index c.loop-attribute.least c.loop-attribute-test.false c.loop-attribute.invariant)
