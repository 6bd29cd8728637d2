-- Closed walks along edges.
use Rattle.std.specs.Prelude.{ℕ, ◌<◌, ◌↔◌, Bool, false, List, IsTrue, slice_index_or}
use Rattle.graph_check.specs.Walks.{Reaches, IsClosedWalk}

-- no closed walk leads along the edges
abbrev pub IsAcyclic : List (ℕ × ℕ) → Type 0
IsAcyclic edges = (a : ℕ) → Reaches edges a a → ⊥

-- a closed walk leads along the edges
abbrev pub IsCyclic : List (ℕ × ℕ) → Type 0
IsCyclic edges = (walk : List ℕ) × IsClosedWalk edges walk

-- for each node, whether a closed walk leads through it
pub record AreClosed (nodes : ℕ) (edges : List (ℕ × ℕ)) (closed : List Bool) : Type 0 where
  pub right : (a : ℕ) → a < nodes → IsTrue (slice_index_or closed a false) ↔ Reaches edges a a
