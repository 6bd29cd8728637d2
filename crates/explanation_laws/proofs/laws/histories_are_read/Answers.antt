use Rattle.explanation_laws.proofs.Histories.{histories_read}
use Rattle.explanation_laws.proofs.laws.histories_are_read.Goals as goal

pub returns : goal.returns
returns c = histories_read
