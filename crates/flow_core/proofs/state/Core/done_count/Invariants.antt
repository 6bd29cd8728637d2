use Rattle.std.proofs.Common.{◌≡◌, ◌≤◌, ◌+◌, ◌-◌, ◌^◌, min}
use Rattle.std.specs.Prelude.{count_by}
use Rattle.flow_core.specs.Answers.{done_roots, is_done, mode_now}
use Rattle.flow_core.proofs.state.Core.done_count.Given as goal

abbrev pub invariant-loop-number : goal.invariant-loop-number
invariant-loop-number l =
    (min (l.count + count_by (λ r. is_done (mode_now r.1.instance)) l._number-iterator) (2 ^ 64 - 1) ≡ min (done_roots l.self) (2 ^ 64 - 1))
    × (l.count ≤ 2 ^ 64 - 1)
