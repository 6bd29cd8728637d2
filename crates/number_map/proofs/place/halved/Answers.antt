use Rattle.std.proofs.Common.{◌≡◌, ◌+◌, ◌-◌, ◌<◌, ◌/◌, Some, length, refl, arith}
use Rattle.std.specs.List.{slice_get}
use Rattle.std.proofs.lemmas.Option.{slice_get_read}
use Rattle.number_map.proofs.Rows.{above_up_to, below_from}
use Rattle.number_map.proofs.place.halved.Goals as goal

pub loop-low-preserved-then-other-number-2 : goal.loop-low-preserved-then-other-number-2
loop-low-preserved-then-other-number-2 g c =
    let middle = c.loop-low.low + (c.loop-low.high - c.loop-low.low) / 2 in
    let so = c.loop-low.invariant in
    let within : middle < length c.args.rows.now = grind (arith, c.loop-low-test.true, so) in
    let at : slice_get c.args.rows.now middle ≡ Some c.index-rows-middle.result = slice_get_read c.args.rows.now (length c.args.rows.now) middle c.index-rows-middle.result refl within c.index-rows-middle.is in (
      grind (arith, c.loop-low-test.true),
      so.1,
      above_up_to c.args.number middle c.args.rows.now c.index-rows-middle.result c.requires at (rw c.index-rows-middle.is c.if-other-number-2.true),
      so.3,
    )

pub loop-low-preserved : goal.loop-low-preserved
loop-low-preserved g c =
    let middle = c.loop-low.low + (c.loop-low.high - c.loop-low.low) / 2 in
    let so = c.loop-low.invariant in
    let within : middle < length c.args.rows.now = grind (arith, c.loop-low-test.true, so) in
    let at : slice_get c.args.rows.now middle ≡ Some c.index-rows-middle.result = slice_get_read c.args.rows.now (length c.args.rows.now) middle c.index-rows-middle.result refl within c.index-rows-middle.is in (
      grind arith,
      grind (arith, within),
      so.2,
      below_from c.args.number middle c.args.rows.now c.index-rows-middle.result c.requires at (grind (arith, c.if-other-number.false, c.if-other-number-2.false)),
    )
