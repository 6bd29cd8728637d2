use Rattle.std.proofs.Common.{◌≡◌, ◌≤◌, ℕ, Some, take}
use Rattle.std.specs.Prelude.{slice_get}
use Rattle.std.specs.List.{All}
use Rattle.flow_model.specs.declared.graphs.Control.{Control}
use Rattle.flow_model.specs.declared.graphs.Graph.{out-Graph}
use Rattle.fate_eval.specs.Timely.{after_of}
use Rattle.fate_eval.proofs.scopes.joined_after.Given as goal

abbrev pub invariant-loop-place : goal.invariant-loop-place
invariant-loop-place l = record {
  later : l.since ≤ l.known;
  all : All (λ p. (c : Control) → slice_get (out-Graph l.graph).controls p ≡ Some c → after_of l.afters c.from ≤ l.known) (take l.place-index l.place-items);
  least : (n : ℕ) → l.since ≤ n → All (λ p. (c : Control) → slice_get (out-Graph l.graph).controls p ≡ Some c → after_of l.afters c.from ≤ n) l.place-items → l.known ≤ n;
}
