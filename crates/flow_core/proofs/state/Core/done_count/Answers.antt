use Rattle.std.proofs.Common.{ap, arith}
use Rattle.std.specs.Prelude.{count_by}
use Rattle.flow_core.specs.Answers.{is_done, mode_now}
use Rattle.flow_core.proofs.state.Core.done_count.Goals as goal

pub returns : goal.returns
returns c =
    let none = ap (count_by (λ r. is_done (mode_now r.1.instance))) c.in-None.ensures.steps.0 in
    grind (arith, none, c.loop-number.invariant.0, c.loop-number.invariant.1)
