use Rattle.std.proofs.Common.{Bor, List, map, subst}
use Rattle.flow_model.specs.declared.trees.ProcessTree.{ProcessTree}
use Rattle.leaf_rules.specs.Leaves.{table_leaves}
use Rattle.process_rules.specs.Callees.{Calls, HasMisfitBy}
use Rattle.process_rules.specs.Calling.{callee_meant}
use Rattle.process_rules.proofs.InOrder.{least_of_graphs}
use Rattle.process_rules.proofs.Knowing.{calls_known}
use Rattle.text_graphs.specs.Graphs.{graph_at}
use Rattle.text_graphs.specs.Places.{IsLeastOf, AnyAt}
use Rattle.process_rules.proofs.callees.mismatched_containers.Goals as goal

pub returns : goal.returns
returns c = λ processes knowing.
    let known = c.args.known.now in
    let library = known.catalog.now.library in
    let leaves = table_leaves c.args.table.now in
    let scopes = c.args.scopes.now in
    let listed = map (λ (p : Bor ProcessTree). p.now) known.processes.items in
    let result = c.first_misfit.result in
    let found = c.in_ok-calls.calls.items in
    let first = rw c.deref.ensures.value at c.first_misfit.ensures in
    let least = least_of_graphs (callee_meant known) leaves library listed scopes found c.in_ok-calls.ensures result first in
    let told = subst (λ (ps : List ProcessTree). IsLeastOf (AnyAt (λ s. HasMisfitBy (callee_meant known) leaves library ps (graph_at s)) scopes) result) knowing.listed least in
    subst (λ (calls : Calls). IsLeastOf (AnyAt (λ s. HasMisfitBy calls leaves library processes (graph_at s)) scopes) result) (calls_known known processes knowing) told
