use Rattle.std.proofs.Common.{take}
use Rattle.text_graphs.specs.Places.{IsLeastOf, AnyAt}
use Rattle.text_graphs.specs.Attributes.{exit_said}
use Rattle.leaf_rules.specs.Leaves.{with_code, table_leaves}
use Rattle.leaf_rules.specs.LeafUses.{IsInCond}
use Rattle.leaf_rules.specs.Searches.{finds_of}
use Rattle.leaf_rules.proofs.uses.activity_fault.Given as goal

abbrev pub invariant-loop-attribute : goal.invariant-loop-attribute
invariant-loop-attribute l = IsLeastOf (AnyAt (λ x. IsInCond (finds_of l.search) (with_code (table_leaves l.table l.activity.output.name)) (exit_said x.what)) (take l.attribute-index l.activity.attrs)) l.least
