use Rattle.compaction_laws.proofs.OwnStores.{histories_fit}
use Rattle.compaction_laws.proofs.laws.histories_are_fit.Goals as goal

pub returns : goal.returns
returns c = histories_fit
