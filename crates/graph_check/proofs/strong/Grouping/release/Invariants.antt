use Rattle.std.proofs.Common.{◌≡◌, ℕ, ◌<◌, length}
use Rattle.graph_check.specs.Grouping.{At, released}
use Rattle.graph_check.proofs.strong.Grouping.release.Given as goal

abbrev pub invariant-loop-self : goal.invariant-loop-self
invariant-loop-self l = record { same : released l.self l.place ≡ released l.initial.self l.place; inside : (p a : ℕ) → At l.self.held p a → a < length l.self.marks }

abbrev pub decreases-loop-self : goal.decreases-loop-self
decreases-loop-self l = length l.self.held
