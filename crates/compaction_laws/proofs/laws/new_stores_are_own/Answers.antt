use Rattle.compaction_laws.proofs.OwnStores.{new_own}
use Rattle.compaction_laws.proofs.laws.new_stores_are_own.Goals as goal

pub returns : goal.returns
returns c = new_own
