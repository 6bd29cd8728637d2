use Rattle.std.proofs.Common.{take}
use Rattle.process_rules.specs.Said.{OfSaid}
use Rattle.process_rules.specs.Search.{looked_for}
use Rattle.text_graphs.specs.Attributes.{exit_said}
use Rattle.text_graphs.specs.Places.{IsLeastOf, AnyAt}
use Rattle.process_rules.proofs.said.in_activity.Given as goal

abbrev pub invariant-loop-attribute : goal.invariant-loop-attribute
invariant-loop-attribute l = IsLeastOf (AnyAt (λ x. OfSaid (looked_for l.looked) (exit_said x.what)) (take l.attribute-index l.attribute-items)) l.least
