-- Leaves as they are seen: a list of them.
use Rattle.std.specs.Prelude.{ℕ, List, take, drop}
use Rattle.flow_model.specs.declared.graphs.Leaf.{Leaf}

-- the leaves of a structure
pub record LeafList : Type 0 where
  pub leaves : List Leaf

-- so many leaves from a place on
abbrev pub run_of : List Leaf → ℕ → ℕ → LeafList
run_of leaves first count = record { leaves = take count (drop first leaves) }
