use Rattle.std.proofs.Common.{◌≡◌, ◌≤◌, ℕ, Some, take}
use Rattle.std.specs.Prelude.{slice_get}
use Rattle.std.specs.List.{All}
use Rattle.flow_model.specs.declared.graphs.DataLine.{DataLine}
use Rattle.flow_model.specs.declared.graphs.Graph.{out-Graph}
use Rattle.flow_model.specs.declared.graphs.MapEnd.TheVariants.{Activity as At}
use Rattle.fate_eval.specs.Timely.{after_of}
use Rattle.fate_eval.proofs.scopes.fed_after.Given as goal

abbrev pub invariant-loop-place : goal.invariant-loop-place
invariant-loop-place l = record {
  later : l.since ≤ l.known;
  all : All (λ p. (d : DataLine) (b : ℕ) → slice_get (out-Graph l.graph).lines p ≡ Some d → d.from ≡ At b → after_of l.afters b ≤ l.known) (take l.place-index l.place-items);
  least : (n : ℕ) → l.since ≤ n → All (λ p. (d : DataLine) (b : ℕ) → slice_get (out-Graph l.graph).lines p ≡ Some d → d.from ≡ At b → after_of l.afters b ≤ n) l.place-items → l.known ≤ n;
}
