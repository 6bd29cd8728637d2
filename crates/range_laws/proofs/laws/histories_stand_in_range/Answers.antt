use Rattle.range_laws.proofs.Histories.{histories_stand}
use Rattle.range_laws.proofs.laws.histories_stand_in_range.Goals as goal

pub returns : goal.returns
returns c = histories_stand
