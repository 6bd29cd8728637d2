use Rattle.std.proofs.Common.{take}
use Rattle.name_rules.specs.KindsMet.{IsKindMet}
use Rattle.name_rules.proofs.names.second_of_kind.Given as goal

abbrev pub invariant-loop-attribute : goal.invariant-loop-attribute
invariant-loop-attribute l = IsKindMet l.of_kind l.fn.kind (take l.attribute-index l.attributes)
