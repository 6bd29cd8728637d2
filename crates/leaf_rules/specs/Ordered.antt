-- Orders of structures.
use Rattle.std.specs.Prelude.{ℕ, List, length}
use Rattle.flow_model.specs.declared.trees.StructDef.{StructDef}
use Rattle.graph_check.specs.Walks.{IsOrder}
use Rattle.leaf_rules.specs.KindEdges.{kind_edges}

-- each structure comes behind the kinds of its members
abbrev pub IsOrdered : List StructDef → List ℕ → Type 0
IsOrdered structures order = IsOrder (length structures) (kind_edges structures) order
