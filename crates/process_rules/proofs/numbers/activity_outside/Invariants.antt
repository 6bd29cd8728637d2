use Rattle.std.proofs.Common.{take}
use Rattle.process_rules.specs.Numbers.{IsSaidOutside}
use Rattle.text_graphs.specs.Places.{IsLeastOf, AnyAt}
use Rattle.process_rules.proofs.numbers.activity_outside.Given as goal

abbrev pub invariant-loop-attribute : goal.invariant-loop-attribute
invariant-loop-attribute l = IsLeastOf (AnyAt (λ x. IsSaidOutside l.connectors x.what) (take l.attribute-index l.attribute-items)) l.least
