use Rattle.std.proofs.Common.{◌≡◌, ◌-◌, drop, length}
use Rattle.live_history.specs.Rows.{present}
use Rattle.live_history.proofs.walk.Walk.next.Given as goal

abbrev pub invariant-rows : goal.invariant-rows
invariant-rows l = present (drop l.self-inside.passed l.self-inside.rows.now) ≡ l.fn.self

abbrev pub decreases-rows : goal.decreases-rows
decreases-rows l = length l.self-inside.rows.now - l.self-inside.passed
