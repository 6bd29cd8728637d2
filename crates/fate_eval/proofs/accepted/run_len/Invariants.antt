use Rattle.std.proofs.Common.{take}
use Rattle.std.specs.List.{All}
use Rattle.fate_eval.specs.Grouped.{LeadsBelow}
use Rattle.fate_eval.proofs.accepted.run_len.Given as goal

abbrev pub invariant-loop-i : goal.invariant-loop-i
invariant-loop-i l = All (LeadsBelow l.part) (take l.i l.entries)
