use Rattle.std.proofs.Common.{◌<◌, ◌^◌}
use Rattle.flow_model.proofs.Digits.{Wrote}
use Rattle.flow_model.proofs.path_reading.number_of.Given as goal

abbrev pub invariant-loop-digit : goal.invariant-loop-digit
invariant-loop-digit l = Wrote l.digits l.digit-index l.number × (l.number < 2 ^ 64)
