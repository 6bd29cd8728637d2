use Rattle.range_laws.proofs.Histories.{history_in_bounds}
use Rattle.range_laws.proofs.laws.histories_stay_in_bounds.Goals as goal

pub returns : goal.returns
returns c = history_in_bounds
