use Rattle.reopening_laws.proofs.Reopened.{histories_reopen}
use Rattle.reopening_laws.proofs.laws.histories_reopen.Goals as goal

pub returns : goal.returns
returns c = histories_reopen
