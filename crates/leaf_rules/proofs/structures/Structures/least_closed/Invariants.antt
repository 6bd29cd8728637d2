use Rattle.text_graphs.specs.Places.{IsLeastOf}
use Rattle.leaf_rules.proofs.Cycles.{CycleTo}
use Rattle.leaf_rules.proofs.structures.Structures.least_closed.Given as goal

abbrev pub invariant-loop-i : goal.invariant-loop-i
invariant-loop-i l = IsLeastOf (CycleTo l.self.definitions.items l.i) l.least
