use Rattle.std.proofs.Common.{take}
use Rattle.process_rules.specs.Said.{OfSaid}
use Rattle.process_rules.specs.Search.{looked_for}
use Rattle.text_graphs.specs.Attributes.{exit_said}
use Rattle.text_graphs.specs.Places.{IsLeastOf, AnyAt}
use Rattle.process_rules.proofs.said.in_exits.Given as goal

abbrev pub invariant-loop-activity : goal.invariant-loop-activity
invariant-loop-activity l = IsLeastOf (AnyAt (λ x. AnyAt (λ y. OfSaid (looked_for l.looked) (exit_said y.what)) x.now.attrs) (take l.activity-index l.scope.activities.items)) l.least
