use Rattle.std.proofs.Common.{take}
use Rattle.text_graphs.specs.Places.{IsLeastOf, AnyAt}
use Rattle.leaf_rules.specs.Leaves.{table_leaves}
use Rattle.leaf_rules.specs.LeafUses.{IsInTransition}
use Rattle.leaf_rules.specs.Searches.{finds_of}
use Rattle.leaf_rules.proofs.uses.transitions_fault.Given as goal

abbrev pub invariant-loop-control : goal.invariant-loop-control
invariant-loop-control l = IsLeastOf (AnyAt (λ x. IsInTransition (finds_of l.search) (table_leaves l.table) l.scope.elements.now x.now) (take l.control-index l.scope.controls.items)) l.least
