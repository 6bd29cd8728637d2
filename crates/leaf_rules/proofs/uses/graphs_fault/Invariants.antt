use Rattle.std.proofs.Common.{take}
use Rattle.text_graphs.specs.Places.{IsLeastOf, AnyAt}
use Rattle.text_graphs.specs.Graphs.{graph_at}
use Rattle.leaf_rules.specs.Leaves.{table_leaves}
use Rattle.leaf_rules.specs.LeafUses.{IsInUses}
use Rattle.leaf_rules.specs.Searches.{finds_of, breaks_of}
use Rattle.leaf_rules.proofs.uses.graphs_fault.Given as goal

abbrev pub invariant-loop-scope : goal.invariant-loop-scope
invariant-loop-scope l = IsLeastOf (AnyAt (λ s. IsInUses (finds_of l.search) (breaks_of l.search) (table_leaves l.table) (graph_at s)) (take l.scope-index l.scopes)) l.least
