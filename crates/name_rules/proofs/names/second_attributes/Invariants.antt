use Rattle.std.proofs.Common.{take}
use Rattle.text_graphs.specs.Places.{IsLeastOf, AnyAt, PairAt}
use Rattle.name_rules.specs.Names.{IsKindAgain}
use Rattle.name_rules.proofs.names.second_attributes.Given as goal

abbrev pub invariant-loop-activity : goal.invariant-loop-activity
invariant-loop-activity l = IsLeastOf (AnyAt (λ a. PairAt IsKindAgain a.now.attrs) (take l.activity-index l.scope.activities.items)) l.least
