use Rattle.process_rules.specs.Doers.{IsNoPerformer}
use Rattle.text_graphs.specs.Places.{IsLeastOf, AnyAt}
use Rattle.text_graphs.specs.Texts.{activities_in}
use Rattle.process_rules.proofs.Numbering.{NumberedBelow}
use Rattle.process_rules.proofs.doers.wrong_by_walks.Given as goal

abbrev pub invariant-loop-i : goal.invariant-loop-i
invariant-loop-i l = IsLeastOf (NumberedBelow (λ number a. AnyAt (λ x. IsNoPerformer l.scope.elements.now number x.what) a.attrs) (activities_in l.scope.elements.now) l.i) l.least
