use Rattle.std.proofs.Common.{◌≡◌, ◌≤◌, ◌<◌, ℕ, false}
use Rattle.flow_core.specs.Answers.{has_message}
use Rattle.flow_session.proofs.serving.Session.queue_within.Given as goal

abbrev pub invariant-loop-queue : goal.invariant-loop-queue
invariant-loop-queue l = (other : ℕ) → l.from ≤ other → other < l.queue → has_message l.self.core other ≡ false
