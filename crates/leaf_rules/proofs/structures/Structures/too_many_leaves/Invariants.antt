use Rattle.std.proofs.Common.{take}
use Rattle.text_graphs.specs.Places.{IsLeastOf, AnyAt}
use Rattle.leaf_rules.specs.Structures.{behind}
use Rattle.leaf_rules.specs.Counts.{IsLarge}
use Rattle.leaf_rules.proofs.structures.Structures.too_many_leaves.Given as goal

abbrev pub invariant-loop-i : goal.invariant-loop-i
invariant-loop-i l = IsLeastOf (AnyAt (λ x. IsLarge (behind l.self.definitions.items) x.now) (take l.i l.self.definitions.items)) l.least
