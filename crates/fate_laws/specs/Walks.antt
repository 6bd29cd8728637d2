-- Walks along the connectors of a graph.
use Rattle.std.specs.Prelude.{◌≡◌, ℕ, zero, suc, List}
use Rattle.std.specs.List.{Contains, All}
use Rattle.flow_model.specs.declared.graphs.Control.{Control}
use Rattle.flow_model.specs.declared.graphs.Graph.{Graph, out-Graph}
use Rattle.flow_model.specs.declared.graphs.MapEnd.TheVariants.{Activity as At}

-- a walk of n connectors from b to a
abbrev pub Walk : List Control → ℕ → ℕ → ℕ → Type 0
Walk controls zero b a = b ≡ a
Walk controls (suc n) b a = (c : Control) × Contains controls c × (c.to ≡ a) × Walk controls n b c.from

-- each data line between two activities goes along a walk of at least one connector
pub record IsWired (g : Graph) : Type 0 where
  pub each : All (λ line. (b a : ℕ) → line.from ≡ At b → line.to ≡ At a
      → (n : ℕ) × Walk (out-Graph g).controls (suc n) b a) (out-Graph g).lines
