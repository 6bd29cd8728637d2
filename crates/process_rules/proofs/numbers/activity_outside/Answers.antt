use Rattle.flow_model.specs.declared.trees.AttrAt.{AttrAt}
use Rattle.process_rules.specs.Numbers.{IsSaidOutside}
use Rattle.text_graphs.proofs.Finding.{least_more, least_all}
use Rattle.process_rules.proofs.numbers.activity_outside.Goals as goal

pub loop-attribute-preserved : goal.loop-attribute-preserved
loop-attribute-preserved c =
    let items = c.as_slice-attribute-items.result.now in
    least_more (λ (x : AttrAt). IsSaidOutside c.args.connectors x.what) items c.loop-attribute.attribute-index c.attribute-item.result c.loop-attribute.least c.attribute_outside.result c.lesser-least.result c.loop-attribute-test.true c.attribute-item.is c.lesser-least.ensures.least c.loop-attribute.invariant c.attribute_outside.ensures

pub returns : goal.returns
returns c =
    let items = c.as_slice-attribute-items.result.now in
    rw c.as_slice-attribute-items.ensures at
    (least_all (λ (x : AttrAt). IsSaidOutside c.args.connectors x.what) items c.loop-attribute.attribute-index c.loop-attribute.least c.loop-attribute-test.false c.loop-attribute.invariant)
