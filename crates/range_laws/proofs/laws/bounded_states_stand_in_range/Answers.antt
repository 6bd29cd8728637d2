use Rattle.range_laws.proofs.Standing.{stands_in_range}
use Rattle.range_laws.proofs.laws.bounded_states_stand_in_range.Goals as goal

pub returns : goal.returns
returns c = stands_in_range
