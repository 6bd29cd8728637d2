use Rattle.reopening_laws.proofs.Reopened.{histories_resumed}
use Rattle.reopening_laws.proofs.laws.histories_are_resumed.Goals as goal

pub returns : goal.returns
returns c = histories_resumed
