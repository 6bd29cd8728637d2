use Rattle.fdl_print.specs.Elements.{attr_line}
use Rattle.fdl_print.proofs.Laying.{one_more}
use Rattle.fdl_print.proofs.printer.Printer.attributes.Goals as goal

pub loop-attribute-preserved : goal.loop-attribute-preserved
loop-attribute-preserved c =
    one_more attr_line c.args.attributes.now c.loop-attribute.attribute-index c.attribute-item.result c.loop-attribute.self c.attribute_line.new.self _
    c.loop-attribute-test.true c.attribute-item.is c.loop-attribute.invariant c.in_ok-attribute_line.ensures
