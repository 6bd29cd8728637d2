use Rattle.range_laws.proofs.Histories.{verdict_in_bounds}
use Rattle.range_laws.proofs.laws.steps_stay_in_bounds.Goals as goal

pub returns : goal.returns
returns c = λ s command t s' ok is step. verdict_in_bounds s command t s' ok is step
