use Rattle.reopening_laws.proofs.Sessions.{made_by_commands}
use Rattle.reopening_laws.proofs.laws.scripts_make_by_commands.Goals as goal

pub returns : goal.returns
returns g c = made_by_commands g.J.Journal.tells g.J.Journal.holds g.J.Journal.moment g.J.Journal.left_since
    g.J.Journal.place g.J.Journal.moved g.met.J.Journal.at_rest g.met.J.Journal.counts_now
