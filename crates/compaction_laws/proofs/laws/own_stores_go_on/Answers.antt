use Rattle.compaction_laws.proofs.OwnStores.{own_go_on}
use Rattle.compaction_laws.proofs.laws.own_stores_go_on.Goals as goal

pub returns : goal.returns
returns g c = own_go_on g.J.Journal.tells g.J.Journal.holds g.J.Journal.moment g.J.Journal.left_since
    g.J.Journal.place g.J.Journal.moved g.met.J.Journal.at_rest g.met.J.Journal.counts_now
