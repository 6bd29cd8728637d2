use Rattle.std.proofs.Common.{◌≡◌, length}
use Rattle.process_rules.proofs.alike.same_steps.Given as goal

abbrev pub invariant-loop-step : goal.invariant-loop-step
invariant-loop-step l = (l.ours ≡ l.theirs → l.fn.first ≡ l.fn.second) × (l.fn.first ≡ l.fn.second → l.ours ≡ l.theirs)

abbrev pub decreases-loop-step : goal.decreases-loop-step
decreases-loop-step l = length l.ours
