use Rattle.flow_session.proofs.RepliedScripts.{script_replied}
use Rattle.flow_session.proofs.laws.scripts_are_replies.Goals as goal

pub returns : goal.returns
returns g c = script_replied g.J.Journal.tells g.J.Journal.holds g.J.Journal.moment g.J.Journal.left_since
    g.J.Journal.place g.J.Journal.moved
