use Rattle.std.proofs.Common.{take}
use Rattle.text_graphs.specs.Places.{IsLeastOf, AnyAt}
use Rattle.leaf_rules.specs.Structures.{behind, AreNoKinds}
use Rattle.leaf_rules.proofs.structures.Structures.unknown_members.Given as goal

abbrev pub invariant-loop-structure : goal.invariant-loop-structure
invariant-loop-structure l = IsLeastOf (AnyAt (λ x. AreNoKinds (behind l.self.definitions.items) x.now) (take l.structure-index l.self.definitions.items)) l.least
