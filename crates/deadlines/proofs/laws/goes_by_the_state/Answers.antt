use Rattle.deadlines.proofs.Going as going
use Rattle.deadlines.proofs.laws.goes_by_the_state.Goals as goal

pub returns : goal.returns
returns c = going.goes_by_the_state
