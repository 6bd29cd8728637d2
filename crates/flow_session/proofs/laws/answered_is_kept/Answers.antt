use Rattle.flow_session.proofs.Scripts.{answered_kept}
use Rattle.flow_session.proofs.laws.answered_is_kept.Goals as goal

pub returns : goal.returns
returns g c = answered_kept g.J.Journal.tells g.J.Journal.holds g.J.Journal.moment g.J.Journal.left_since g.J.Journal.place g.J.Journal.moved g.met.J.Journal.at_rest g.met.J.Journal.counts_now
