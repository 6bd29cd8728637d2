use Rattle.std.proofs.Common.{◌≡◌, take}
use Rattle.template_check.specs.Wires.{pairs_of}
use Rattle.template_check.proofs.wires.pairs.Given as goal

abbrev pub invariant-loop-control : goal.invariant-loop-control
invariant-loop-control l = l.pairs.items ≡ pairs_of (take l.control-index l.controls)
