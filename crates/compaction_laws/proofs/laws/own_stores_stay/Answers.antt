use Rattle.compaction_laws.proofs.OwnStores.{own_stay}
use Rattle.compaction_laws.proofs.laws.own_stores_stay.Goals as goal

pub returns : goal.returns
returns g c = own_stay g.J.Journal.tells g.J.Journal.moment g.J.Journal.left_since
