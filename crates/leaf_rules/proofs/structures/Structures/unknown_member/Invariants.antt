use Rattle.std.proofs.Common.{take}
use Rattle.text_graphs.specs.Places.{IsLeastOf, AnyAt}
use Rattle.leaf_rules.specs.Structures.{behind, IsNoKind}
use Rattle.leaf_rules.proofs.structures.Structures.unknown_member.Given as goal

abbrev pub invariant-loop-member : goal.invariant-loop-member
invariant-loop-member l = IsLeastOf (AnyAt (λ m. IsNoKind (behind l.self.definitions.items) m.kind) (take l.member-index l.structure.members)) l.least
