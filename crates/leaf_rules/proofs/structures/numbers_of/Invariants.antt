use Rattle.std.proofs.Common.{map, take}
use Rattle.leaf_rules.specs.Structures.{AreStructuresNumbered}
use Rattle.leaf_rules.proofs.structures.numbers_of.Given as goal

abbrev pub invariant-loop-i : goal.invariant-loop-i
invariant-loop-i l = AreStructuresNumbered (map (λ s. s.now) (take l.i l.structures)) l.numbers
