use Rattle.flow_session.proofs.Scripts.{keep_right}
use Rattle.flow_session.proofs.laws.scripts_keep_right.Goals as goal

pub returns : goal.returns
returns g c = keep_right g.J.Journal.tells g.J.Journal.holds g.J.Journal.moment g.J.Journal.left_since g.J.Journal.place g.J.Journal.moved
