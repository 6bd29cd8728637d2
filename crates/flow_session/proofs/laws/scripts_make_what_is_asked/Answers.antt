use Rattle.flow_session.proofs.Scripts.{make_asked}
use Rattle.flow_session.proofs.laws.scripts_make_what_is_asked.Goals as goal

pub returns : goal.returns
returns g c = make_asked g.J.Journal.tells g.J.Journal.holds g.J.Journal.moment g.J.Journal.left_since g.J.Journal.place
    g.J.Journal.moved g.met.J.Journal.at_rest g.met.J.Journal.counts_now
