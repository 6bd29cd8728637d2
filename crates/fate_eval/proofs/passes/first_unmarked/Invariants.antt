use Rattle.fate_eval.specs.Refusals.{AreMarked}
use Rattle.fate_eval.proofs.passes.first_unmarked.Given as goal

abbrev pub invariant-loop-i : goal.invariant-loop-i
invariant-loop-i l = AreMarked l.marks l.i
