-- Strong components: two nodes are in one exactly where each reaches the other.
use Rattle.std.specs.Prelude.{◌≡◌, ◌==◌, ℕ, ◌<◌, ◌≤◌, ◌↔◌, Bool, false, List, ◌⊎◌, IsTrue, Some, length, slice_get}
use Rattle.std.specs.Prelude.{slice_index, slice_index_or}
use Rattle.graph_check.specs.Walks.{HasEdge, Reaches}

-- a walk, of no edge or more, leads from a to b
abbrev pub Leads : List (ℕ × ℕ) → ℕ → ℕ → Type 0
Leads edges a b = (a ≡ b) ⊎ Reaches edges a b

-- the number of each node's strong component; no edge leads to a smaller number
pub record AreComponents (nodes : ℕ) (edges : List (ℕ × ℕ)) (numbers : List ℕ) : Type 0 where
  pub long : length numbers ≡ nodes
  pub together : (a b : ℕ) → a < nodes → b < nodes → slice_index numbers a ≡ slice_index numbers b → Leads edges a b
  pub apart : (a b : ℕ) → a < nodes → b < nodes → Reaches edges a b → Reaches edges b a
      → slice_index numbers a ≡ slice_index numbers b
  pub forward : (a b : ℕ) → HasEdge edges a b → slice_index numbers a ≤ slice_index numbers b

-- for each edge, whether it lies on a closed walk: whether its end reaches its start
pub record AreCyclic (edges : List (ℕ × ℕ)) (cyclic : List Bool) : Type 0 where
  pub long : length cyclic ≡ length edges
  pub right : (a b i : ℕ) → slice_get edges i ≡ Some (a, b) → IsTrue (slice_index_or cyclic i false) ↔ Reaches edges b a

-- both ends of an edge have one number
abbrev pub same_number : List ℕ → ℕ × ℕ → Bool
same_number numbers edge = slice_index numbers edge.0 == slice_index numbers edge.1
