use Rattle.std.proofs.Common.{◌≡◌, ◌++◌, length}
use Rattle.live_history.proofs.history.History.compact.Given as goal

abbrev pub invariant-loop-old : goal.invariant-loop-old
invariant-loop-old l = l.self.items ++ l.walk ≡ l.fn.self.items

abbrev pub decreases-loop-old : goal.decreases-loop-old
decreases-loop-old l = length l.walk
