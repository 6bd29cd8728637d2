use Rattle.std.proofs.Common.{take}
use Rattle.process_rules.specs.Callees.{process_named, IsNoProcess}
use Rattle.process_rules.specs.Calling.{callee_meant}
use Rattle.text_graphs.specs.Places.{IsLeastOf, AnyAt}
use Rattle.process_rules.proofs.callees.unknown_in_graph.Given as goal

abbrev pub invariant-loop-activity : goal.invariant-loop-activity
invariant-loop-activity l = IsLeastOf (AnyAt (λ x. IsNoProcess (callee_meant l.known) l.scope.process (process_named x.now.work)) (take l.activity-index l.scope.activities.items)) l.least
