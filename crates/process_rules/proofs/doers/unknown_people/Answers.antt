use Rattle.process_rules.specs.Doers.{NamesNoPerson}
use Rattle.text_graphs.specs.Graphs.{graph_at}
use Rattle.text_graphs.specs.declared.scopes.Scope.{Scope}
use Rattle.text_graphs.proofs.Finding.{least_more, least_all}
use Rattle.process_rules.proofs.doers.unknown_people.Goals as goal

pub loop-scope-preserved : goal.loop-scope-preserved
loop-scope-preserved c = λ people are.
    least_more (λ (s : Scope). NamesNoPerson c.args.known.now.catalog.now.library people (graph_at s)) c.args.scopes.now c.loop-scope.scope-index c.scope-item.result c.loop-scope.least c.unknown_in_graph.result c.lesser-least.result c.loop-scope-test.true c.scope-item.is c.lesser-least.ensures.least (c.loop-scope.invariant people are) (c.unknown_in_graph.ensures people are)

pub returns : goal.returns
returns c = λ people are. least_all (λ (s : Scope). NamesNoPerson c.args.known.now.catalog.now.library people (graph_at s)) c.args.scopes.now c.loop-scope.scope-index c.loop-scope.least c.loop-scope-test.false (c.loop-scope.invariant people are)
