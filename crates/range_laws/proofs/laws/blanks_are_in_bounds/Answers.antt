use Rattle.range_laws.proofs.Histories.{blank_in_bounds}
use Rattle.range_laws.proofs.laws.blanks_are_in_bounds.Goals as goal

pub returns : goal.returns
returns c = blank_in_bounds
