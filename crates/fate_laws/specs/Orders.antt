-- Orders of the activities of a graph, in which connectors and data lines lead forward.
use Rattle.std.specs.Prelude.{◌≡◌, ℕ, ◌<◌, List, length, slice_index}
use Rattle.std.specs.List.{All}
use Rattle.flow_model.specs.declared.graphs.Graph.{Graph, out-Graph}
use Rattle.flow_model.specs.declared.graphs.MapEnd.TheVariants.{Activity as At}

-- every activity stands in the order, behind the sources of the connectors that lead to it
pub record IsOrder (g : Graph) (order : List ℕ) : Type 0 where
  pub long : length order ≡ length (out-Graph g).activities
  pub in_range : All (λ a. a < length (out-Graph g).activities) order
  pub covers : (a : ℕ) → a < length (out-Graph g).activities → (i : ℕ) × (i < length order) × (slice_index order i ≡ a)
  pub forward : (i : ℕ) → i < length order
      → All (λ c. c.to ≡ slice_index order i → (j : ℕ) × (j < i) × (slice_index order j ≡ c.from))
      (out-Graph g).controls

-- and behind the activities from which data lines lead to it
pub record IsFlow (g : Graph) (order : List ℕ) : Type 0 where
  pub ordered : IsOrder g order
  pub fed : (i : ℕ) → i < length order
      → All (λ line. line.to ≡ At (slice_index order i) → (b : ℕ) → line.from ≡ At b
      → (j : ℕ) × (j < i) × (slice_index order j ≡ b)) (out-Graph g).lines
