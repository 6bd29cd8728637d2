use Rattle.fdl_print.specs.Canonical.{item_pieces}
use Rattle.fdl_print.proofs.Laying.{one_more}
use Rattle.fdl_print.proofs.printer.Printer.items.Goals as goal

pub loop-item-preserved : goal.loop-item-preserved
loop-item-preserved c =
    one_more item_pieces c.args.items.now c.loop-item.item-index c.item-item.result c.loop-item.self c.item.new.self _
    c.loop-item-test.true c.item-item.is c.loop-item.invariant c.in_ok-item.ensures
