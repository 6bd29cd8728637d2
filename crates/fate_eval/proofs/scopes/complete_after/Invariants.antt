use Rattle.std.proofs.Common.{◌≤◌, ℕ, take}
use Rattle.std.specs.List.{All}
use Rattle.fate_eval.proofs.scopes.complete_after.Given as goal

abbrev pub invariant-loop-after : goal.invariant-loop-after
invariant-loop-after l = record {
  later : l.since ≤ l.known;
  all : All (λ a. a ≤ l.known) (take l.after-index l.afters);
  least : (n : ℕ) → l.since ≤ n → All (λ a. a ≤ n) l.afters → l.known ≤ n;
}
