use Rattle.process_rules.specs.Numbers.{IsNumberWrong}
use Rattle.text_graphs.specs.Graphs.{graph_at}
use Rattle.text_graphs.specs.declared.scopes.Scope.{Scope}
use Rattle.text_graphs.proofs.Finding.{least_more, least_all}
use Rattle.process_rules.proofs.numbers.graph_numbers.Goals as goal

pub loop-scope-preserved : goal.loop-scope-preserved
loop-scope-preserved c =
    least_more (λ (s : Scope). IsNumberWrong (graph_at s)) c.args.scopes.now c.loop-scope.scope-index c.scope-item.result c.loop-scope.least c.in_ok-wrong_in_graph.field-0 c.lesser-least.result c.loop-scope-test.true c.scope-item.is c.lesser-least.ensures.least c.loop-scope.invariant c.in_ok-wrong_in_graph.ensures

pub returns : goal.returns
returns c = least_all (λ (s : Scope). IsNumberWrong (graph_at s)) c.args.scopes.now c.loop-scope.scope-index c.loop-scope.least c.loop-scope-test.false c.loop-scope.invariant
