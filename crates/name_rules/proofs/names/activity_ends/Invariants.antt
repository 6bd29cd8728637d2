use Rattle.std.proofs.Common.{take}
use Rattle.text_graphs.specs.Places.{IsLeastOf, AnyAt}
use Rattle.name_rules.specs.Names.{IsOtherEnd}
use Rattle.name_rules.proofs.names.activity_ends.Given as goal

abbrev pub invariant-loop-activity : goal.invariant-loop-activity
invariant-loop-activity l = IsLeastOf (AnyAt (λ a. IsOtherEnd a.now.name a.now.end) (take l.activity-index l.scope.activities.items)) l.least
