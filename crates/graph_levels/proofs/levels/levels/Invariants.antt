use Rattle.std.proofs.Common.{◌≡◌, ℕ, ◌<◌, length}
use Rattle.std.specs.Prelude.{slice_index}
use Rattle.graph_levels.specs.Levels.{IsLevel}
use Rattle.graph_levels.proofs.levels.levels.Given as goal

abbrev pub invariant-loop-node : goal.invariant-loop-node
invariant-loop-node l = record {
  long : length l.levels.items ≡ l.nodes;
  each : (k : ℕ) → k < l.node-index → IsLevel l.edges (slice_index l.order k) (slice_index l.levels.items (slice_index l.order k));
}
