use Rattle.compaction_laws.proofs.OwnStores.{scripts_reopen}
use Rattle.compaction_laws.proofs.laws.scripts_reopen.Goals as goal

pub returns : goal.returns
returns g c = scripts_reopen g.J.Journal.tells g.J.Journal.holds g.J.Journal.moment g.J.Journal.left_since
    g.J.Journal.place g.J.Journal.moved g.met.J.Journal.at_rest g.met.J.Journal.counts_now
