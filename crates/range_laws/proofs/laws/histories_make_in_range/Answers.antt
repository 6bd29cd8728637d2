use Rattle.machine.specs.States.{blank}
use Rattle.range_laws.proofs.Histories.{blank_in_bounds, history_in_bounds, next_in_range}
use Rattle.range_laws.proofs.laws.histories_make_in_range.Goals as goal

pub returns : goal.returns
returns c = λ queues limit ts s command t few small made fine is.
    next_in_range s (history_in_bounds (blank queues limit) ts s (blank_in_bounds queues limit few small) made) command t
    fine is
