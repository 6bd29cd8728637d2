use Rattle.std.proofs.Common.{map}
use Rattle.process_rules.specs.Callees.{call_at, calls_in}
use Rattle.process_rules.specs.Calling.{callee_meant}
use Rattle.text_graphs.specs.Graphs.{graph_at}
use Rattle.process_rules.proofs.InOrder.{joined_more, joined_all}
use Rattle.process_rules.proofs.callees.calls_of.Goals as goal

pub loop-scope-preserved : goal.loop-scope-preserved
loop-scope-preserved c =
    joined_more (calls_in (callee_meant c.args.known.now)) graph_at c.args.scopes.now c.loop-scope.scope-index c.scope-item.result (map call_at c.loop-scope.calls.items) (map call_at c.add_calls.new.calls.items) c.loop-scope-test.true c.scope-item.is c.in_ok-add_calls.ensures c.loop-scope.invariant

pub returns : goal.returns
returns c = joined_all (calls_in (callee_meant c.args.known.now)) graph_at c.args.scopes.now c.loop-scope.scope-index (map call_at c.loop-scope.calls.items) c.loop-scope-test.false c.loop-scope.invariant
