use Rattle.compaction_laws.proofs.OwnStores.{own_reopens}
use Rattle.compaction_laws.proofs.laws.own_stores_reopen.Goals as goal

pub returns : goal.returns
returns c = own_reopens
