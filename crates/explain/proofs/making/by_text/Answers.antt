use Rattle.explain.proofs.Shown.{row_kept}
use Rattle.explain.proofs.making.by_text.Goals as goal

pub loop-row-preserved : goal.loop-row-preserved
loop-row-preserved c =
    row_kept c.loop-row.fates c.insert.new.self c.in_ok-activity_text.field-0.items c.args.rows.now c.loop-row.row-index c.row-item.result c.loop-row-test.true c.row-item.is c.in_ok-activity_text.ensures c.loop-row.invariant c.in_ok-insert.ensures.updates
