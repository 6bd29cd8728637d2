use Rattle.std.proofs.Common.{take}
use Rattle.process_rules.specs.Doers.{IsNoPerformer}
use Rattle.text_graphs.specs.Places.{IsLeastOf, AnyAt}
use Rattle.process_rules.proofs.doers.wrong_in_activity.Given as goal

abbrev pub invariant-loop-attribute : goal.invariant-loop-attribute
invariant-loop-attribute l = IsLeastOf (AnyAt (λ x. IsNoPerformer l.scope.elements.now l.to x.what) (take l.attribute-index l.attribute-items)) l.least
