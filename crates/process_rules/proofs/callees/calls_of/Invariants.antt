use Rattle.std.proofs.Common.{◌≡◌, map, take}
use Rattle.process_rules.specs.Callees.{call_at, calls_among}
use Rattle.process_rules.specs.Calling.{callee_meant}
use Rattle.text_graphs.specs.Graphs.{graphs_in}
use Rattle.process_rules.proofs.callees.calls_of.Given as goal

abbrev pub invariant-loop-scope : goal.invariant-loop-scope
invariant-loop-scope l = map call_at l.calls.items ≡ calls_among (callee_meant l.known) (graphs_in (take l.scope-index l.scopes))
