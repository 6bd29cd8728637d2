use Rattle.process_rules.specs.Numbers.{IsSaidOutside, connectors_to}
use Rattle.text_graphs.specs.Places.{IsLeastOf, AnyAt}
use Rattle.text_graphs.specs.Texts.{activities_in}
use Rattle.process_rules.proofs.Numbering.{NumberedBelow}
use Rattle.process_rules.proofs.numbers.attributes_outside.Given as goal

abbrev pub invariant-loop-i : goal.invariant-loop-i
invariant-loop-i l = IsLeastOf (NumberedBelow (λ number a. AnyAt (λ x. IsSaidOutside (connectors_to l.scope.elements.now number) x.what) a.attrs) (activities_in l.scope.elements.now) l.i) l.least
