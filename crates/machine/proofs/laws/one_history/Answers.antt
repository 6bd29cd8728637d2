use Rattle.machine.proofs.One.{one_history}
use Rattle.machine.proofs.laws.one_history.Goals as goal

pub returns : goal.returns
returns c = one_history
