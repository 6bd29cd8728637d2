use Rattle.text_graphs.proofs.Finding.{least_more, least_all}
use Rattle.name_rules.specs.Names.{IsItemEnd}
use Rattle.name_rules.proofs.names.item_ends.Goals as goal

pub loop-item-preserved : goal.loop-item-preserved
loop-item-preserved c =
    least_more IsItemEnd c.args.items.now c.loop-item.item-index c.item-item.result c.loop-item.least c.item_end.result c.lesser-least.result c.loop-item-test.true c.item-item.is c.lesser-least.ensures.least c.loop-item.invariant c.item_end.ensures

pub returns : goal.returns
returns c = least_all IsItemEnd c.args.items.now c.loop-item.item-index c.loop-item.least c.loop-item-test.false c.loop-item.invariant
