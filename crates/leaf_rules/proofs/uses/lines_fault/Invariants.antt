use Rattle.std.proofs.Common.{take}
use Rattle.text_graphs.specs.Places.{IsLeastOf, AnyAt}
use Rattle.text_graphs.specs.GraphTexts.{text_of}
use Rattle.leaf_rules.specs.Leaves.{table_leaves}
use Rattle.leaf_rules.specs.LeafUses.{IsInLine}
use Rattle.leaf_rules.specs.Searches.{breaks_of}
use Rattle.leaf_rules.proofs.uses.lines_fault.Given as goal

abbrev pub invariant-loop-line : goal.invariant-loop-line
invariant-loop-line l = IsLeastOf (AnyAt (λ x. IsInLine (breaks_of l.search) (table_leaves l.table) (text_of l.scope) x.now) (take l.line-index l.scope.lines.items)) l.least
