use Rattle.flow_session.proofs.OneList.{one_list}
use Rattle.flow_session.proofs.laws.scripts_have_one_list.Goals as goal

pub returns : goal.returns
returns g c = one_list g.J.Journal.tells g.J.Journal.holds g.J.Journal.moment g.J.Journal.left_since g.J.Journal.place
    g.J.Journal.moved g.K.Journal.tells g.K.Journal.holds g.K.Journal.moment g.K.Journal.left_since g.K.Journal.place
    g.K.Journal.moved
