use Rattle.compaction_laws.proofs.OwnStores.{crashes_fit}
use Rattle.compaction_laws.proofs.laws.crashes_are_fit.Goals as goal

pub returns : goal.returns
returns g c = crashes_fit g.J.Journal.tells g.J.Journal.moment g.J.Journal.left_since
