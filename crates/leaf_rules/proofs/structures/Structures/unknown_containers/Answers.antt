use Rattle.text_graphs.specs.Graphs.{graph_at}
use Rattle.leaf_rules.specs.Structures.{behind, AreNoContainersIn}
use Rattle.text_graphs.specs.declared.scopes.Scope.{Scope}
use Rattle.text_graphs.proofs.Finding.{least_more, least_all}
use Rattle.leaf_rules.proofs.structures.Structures.unknown_containers.Goals as goal

pub loop-scope-preserved : goal.loop-scope-preserved
loop-scope-preserved c =
    least_more (λ (s : Scope). AreNoContainersIn (behind c.args.self.now.definitions.items) (graph_at s)) c.args.scopes.now c.loop-scope.scope-index c.scope-item.result c.loop-scope.least c.unknown_container.result c.lesser-least.result c.loop-scope-test.true c.scope-item.is c.lesser-least.ensures.least c.loop-scope.invariant c.unknown_container.ensures

pub returns : goal.returns
returns c = least_all (λ (s : Scope). AreNoContainersIn (behind c.args.self.now.definitions.items) (graph_at s)) c.args.scopes.now c.loop-scope.scope-index c.loop-scope.least c.loop-scope-test.false c.loop-scope.invariant
