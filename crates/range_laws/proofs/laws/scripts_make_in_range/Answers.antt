use Rattle.range_laws.proofs.Scripts.{scripts_in_range}
use Rattle.range_laws.proofs.laws.scripts_make_in_range.Goals as goal

pub returns : goal.returns
returns g c = scripts_in_range g.J.Journal.tells g.J.Journal.holds g.J.Journal.moment g.J.Journal.left_since
    g.J.Journal.place g.J.Journal.moved g.met.J.Journal.at_rest g.met.J.Journal.counts_now
