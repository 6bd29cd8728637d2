-- What the searches of rules 13 and 14 find.
use Rattle.std.specs.Prelude.{ℕ, Option, List}
use Rattle.conditions.specs.Faults.{unknown_leaf, mismatch}
use Rattle.flow_model.specs.declared.graphs.Leaf.{Leaf}
use Rattle.flow_model.specs.declared.trees.Cond.{Cond}
use Rattle.flow_model.specs.declared.trees.MapTree.{MapTree}
use Rattle.leaf_rules.specs.LeafUses.{IsNoLeafIn, IsMixed}
use Rattle.leaf_rules.specs.declared.uses.Search.{Search}
use Rattle.leaf_rules.specs.declared.uses.Search.TheVariants.{Unknown, Mismatch}

-- in a condition
abbrev pub finds_of : Search → List Leaf → Cond → Option ℕ
finds_of Unknown = unknown_leaf
finds_of Mismatch = mismatch

-- in a map
abbrev pub breaks_of : Search → List Leaf → List Leaf → MapTree → ℕ → Type 0
breaks_of Unknown = IsNoLeafIn
breaks_of Mismatch = IsMixed
