use Rattle.std.proofs.Common.{take}
use Rattle.text_graphs.specs.Places.{IsLeastOf, AnyAt}
use Rattle.leaf_rules.specs.ArrayCounts.{IsOutside}
use Rattle.leaf_rules.proofs.structures.count_in_structure.Given as goal

abbrev pub invariant-loop-member : goal.invariant-loop-member
invariant-loop-member l = IsLeastOf (AnyAt (λ m. IsOutside m.count) (take l.member-index l.structure.members)) l.least
