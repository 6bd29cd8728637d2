use Rattle.flow_session.proofs.Scripts.{are_runs}
use Rattle.flow_session.proofs.laws.scripts_are_runs.Goals as goal

pub returns : goal.returns
returns g c = are_runs g.J.Journal.tells g.J.Journal.holds g.J.Journal.moment g.J.Journal.left_since g.J.Journal.place
    g.J.Journal.moved g.met.J.Journal.at_rest g.met.J.Journal.counts_now
