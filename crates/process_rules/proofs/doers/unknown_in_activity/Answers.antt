use Rattle.flow_model.specs.declared.trees.AttrAt.{AttrAt}
use Rattle.process_rules.specs.Doers.{is_person, IsNoPerson}
use Rattle.text_graphs.proofs.Finding.{least_more, least_all}
use Rattle.process_rules.proofs.doers.unknown_in_activity.Goals as goal

pub loop-attribute-preserved : goal.loop-attribute-preserved
loop-attribute-preserved c = λ people are.
    let items = c.as_slice-attribute-items.result.now in
    least_more (λ (x : AttrAt). IsNoPerson (is_person c.args.known.now.catalog.now.library people) x.what) items c.loop-attribute.attribute-index c.attribute-item.result c.loop-attribute.least c.unknown_name.result c.lesser-least.result c.loop-attribute-test.true c.attribute-item.is c.lesser-least.ensures.least (c.loop-attribute.invariant people are) (c.unknown_name.ensures people are)

pub returns : goal.returns
returns c = λ people are.
    let items = c.as_slice-attribute-items.result.now in
    rw c.as_slice-attribute-items.ensures at
    (least_all (λ (x : AttrAt). IsNoPerson (is_person c.args.known.now.catalog.now.library people) x.what) items c.loop-attribute.attribute-index c.loop-attribute.least c.loop-attribute-test.false (c.loop-attribute.invariant people are))
