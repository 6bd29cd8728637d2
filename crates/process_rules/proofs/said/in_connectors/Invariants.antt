use Rattle.std.proofs.Common.{take}
use Rattle.process_rules.specs.Said.{OfSaid, when_said}
use Rattle.process_rules.specs.Search.{looked_for}
use Rattle.text_graphs.specs.Places.{IsLeastOf, AnyAt}
use Rattle.process_rules.proofs.said.in_connectors.Given as goal

abbrev pub invariant-loop-control : goal.invariant-loop-control
invariant-loop-control l = IsLeastOf (AnyAt (λ x. OfSaid (looked_for l.looked) (when_said x.now.when)) (take l.control-index l.scope.controls.items)) l.least
