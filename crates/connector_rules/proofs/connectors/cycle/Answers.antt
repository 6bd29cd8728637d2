use Rattle.std.proofs.Common.{subst}
use Rattle.text_graphs.specs.Places.{IsLeastOf, AnyAt}
use Rattle.connector_rules.proofs.Closing.{all_acyclic}
use Rattle.connector_rules.specs.Connectors.{IsOnCycle}
use Rattle.text_graphs.specs.Graphs.{graph_at}
use Rattle.text_graphs.specs.declared.scopes.Scope.{Scope}
use Rattle.text_graphs.proofs.Finding.{least_more, least_all}
use Rattle.connector_rules.proofs.connectors.cycle.Goals as goal

pub loop-scope-preserved : goal.loop-scope-preserved
loop-scope-preserved c =
    least_more (λ (s : Scope). IsOnCycle (graph_at s)) c.args.scopes.now c.loop-scope.scope-index c.scope-item.result c.loop-scope.least c.in_ok-cycle_in_graph.field-0 c.lesser-least.result c.loop-scope-test.true c.scope-item.is c.lesser-least.ensures.least c.loop-scope.invariant c.in_ok-cycle_in_graph.ensures

pub returns-clause-least : goal.returns-clause-least
returns-clause-least c = least_all (λ (s : Scope). IsOnCycle (graph_at s)) c.args.scopes.now c.loop-scope.scope-index c.loop-scope.least c.loop-scope-test.false c.loop-scope.invariant

pub returns-clause-acyclic : goal.returns-clause-acyclic
returns-clause-acyclic c = λ none.
    let least = least_all (λ (s : Scope). IsOnCycle (graph_at s)) c.args.scopes.now c.loop-scope.scope-index c.loop-scope.least c.loop-scope-test.false c.loop-scope.invariant in
    all_acyclic c.args.scopes.now (subst (IsLeastOf (AnyAt (λ (s : Scope). IsOnCycle (graph_at s)) c.args.scopes.now)) none least)
