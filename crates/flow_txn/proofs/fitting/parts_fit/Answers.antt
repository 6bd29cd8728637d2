use Rattle.std.proofs.Common.{refl}
use Rattle.flow_txn.specs.Ranges.{PartFits}
use Rattle.flow_txn.proofs.Elementwise.{all_of, one_more}
use Rattle.flow_txn.proofs.fitting.parts_fit.Goals as goal

pub loop-part-preserved : goal.loop-part-preserved
loop-part-preserved c =
    one_more PartFits c.args.parts.now c.loop-part.part-index c.part-item.result c.loop-part-test.true c.part-item.is c.loop-part.invariant
    (c.part_fits.ensures.0 c.if-not-part_fits.false)

pub returns : goal.returns
returns c =
    (λ is. all_of PartFits c.args.parts.now c.loop-part.part-index c.loop-part-test.false c.loop-part.invariant, λ all. refl)
