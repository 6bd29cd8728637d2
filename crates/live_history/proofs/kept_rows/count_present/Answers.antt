use Rattle.std.proofs.Common.{◌∙◌, sym, true, false, arith}
use Rattle.std.specs.Option.{is_some}
use Rattle.live_history.proofs.Records.{counted_more, counted_all}
use Rattle.live_history.proofs.kept_rows.count_present.Goals as goal
use Rattle.live_history.proofs.kept_rows.count_present.Goals.{then-is_present, else-is_present}

pub loop-row-preserved : goal.loop-row-preserved
loop-row-preserved c = record {
  most = elim c.if-is_present.branch [ then-is_present w ↦ omega arith | else-is_present w ↦ omega arith ];
  counted = λ records kept.
      elim c.if-is_present.branch [
        | then-is_present w ↦
            counted_more is_some records c.args.rows.now c.loop-row.row-index c.if-is_present.count c.loop-row.count c.row-item.result true c.loop-row-test.true c.row-item.is kept
            (λ k. sym w.if-is_present.true ∙ c.is_present.ensures records k) w.count-is (c.loop-row.invariant.counted records kept)
        | else-is_present w ↦
            counted_more is_some records c.args.rows.now c.loop-row.row-index c.if-is_present.count c.loop-row.count c.row-item.result false c.loop-row-test.true c.row-item.is kept
            (λ k. sym w.if-is_present.false ∙ c.is_present.ensures records k) w.count-is (c.loop-row.invariant.counted records kept)
      ];
}

pub returns : goal.returns
returns c = λ records kept.
    counted_all is_some records c.args.rows.now c.loop-row.row-index c.loop-row.count c.loop-row-test.false (c.loop-row.invariant.counted records kept)
