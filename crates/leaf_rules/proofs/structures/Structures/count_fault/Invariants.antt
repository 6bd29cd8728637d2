use Rattle.std.proofs.Common.{take}
use Rattle.text_graphs.specs.Places.{IsLeastOf, AnyAt}
use Rattle.leaf_rules.specs.ArrayCounts.{HasCountOutside}
use Rattle.leaf_rules.proofs.structures.Structures.count_fault.Given as goal

abbrev pub invariant-loop-structure : goal.invariant-loop-structure
invariant-loop-structure l = IsLeastOf (AnyAt (λ x. HasCountOutside x.now) (take l.structure-index l.self.definitions.items)) l.least
