use Rattle.std.proofs.Common.{◌≡◌, ◌++◌, map, take}
use Rattle.std.specs.List.{filter_map}
use Rattle.process_rules.specs.Callees.{call_at, call_of}
use Rattle.process_rules.specs.Calling.{callee_meant}
use Rattle.process_rules.proofs.callees.add_calls.Given as goal

abbrev pub invariant-loop-activity : goal.invariant-loop-activity
invariant-loop-activity l = map call_at l.calls.items ≡ map call_at l.initial.calls.items ++ filter_map (call_of (callee_meant l.known) l.scope.process) (take l.activity-index (map (λ a. a.now) l.scope.activities.items))
