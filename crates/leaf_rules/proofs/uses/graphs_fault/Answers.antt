use Rattle.text_graphs.specs.Graphs.{graph_at}
use Rattle.text_graphs.specs.declared.scopes.Scope.{Scope}
use Rattle.text_graphs.proofs.Finding.{least_more, least_all}
use Rattle.leaf_rules.specs.Leaves.{table_leaves}
use Rattle.leaf_rules.specs.LeafUses.{IsInUses}
use Rattle.leaf_rules.specs.Searches.{finds_of, breaks_of}
use Rattle.leaf_rules.proofs.uses.graphs_fault.Goals as goal

pub loop-scope-preserved : goal.loop-scope-preserved
loop-scope-preserved c =
    least_more (λ (s : Scope). IsInUses (finds_of c.args.search) (breaks_of c.args.search) (table_leaves c.args.table.now) (graph_at s)) c.args.scopes.now c.loop-scope.scope-index c.scope-item.result c.loop-scope.least c.graph_fault.result
    c.lesser-least.result c.loop-scope-test.true c.scope-item.is c.lesser-least.ensures.least c.loop-scope.invariant c.graph_fault.ensures

pub returns : goal.returns
returns c = least_all (λ (s : Scope). IsInUses (finds_of c.args.search) (breaks_of c.args.search) (table_leaves c.args.table.now) (graph_at s)) c.args.scopes.now c.loop-scope.scope-index c.loop-scope.least c.loop-scope-test.false c.loop-scope.invariant
