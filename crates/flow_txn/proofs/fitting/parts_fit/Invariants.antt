use Rattle.std.proofs.Common.{take}
use Rattle.std.specs.List.{All}
use Rattle.flow_txn.specs.Ranges.{PartFits}
use Rattle.flow_txn.proofs.fitting.parts_fit.Given as goal

abbrev pub invariant-loop-part : goal.invariant-loop-part
invariant-loop-part l = All PartFits (take l.part-index l.parts)
