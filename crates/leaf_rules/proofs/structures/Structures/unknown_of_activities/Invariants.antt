use Rattle.std.proofs.Common.{take}
use Rattle.text_graphs.specs.Places.{IsLeastOf, AnyAt}
use Rattle.leaf_rules.specs.Structures.{behind, AreNoContainers}
use Rattle.leaf_rules.proofs.structures.Structures.unknown_of_activities.Given as goal

abbrev pub invariant-loop-activity : goal.invariant-loop-activity
invariant-loop-activity l = IsLeastOf (AnyAt (λ x. AreNoContainers (behind l.self.definitions.items) x.now) (take l.activity-index l.scope.activities.items)) l.least
