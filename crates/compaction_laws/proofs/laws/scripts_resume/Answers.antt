use Rattle.compaction_laws.proofs.Crashed.{scripts_resume}
use Rattle.compaction_laws.proofs.laws.scripts_resume.Goals as goal

pub returns : goal.returns
returns g c = scripts_resume g.J.Journal.tells g.J.Journal.holds g.J.Journal.moment g.J.Journal.left_since
    g.J.Journal.place g.J.Journal.moved g.met.J.Journal.at_rest g.met.J.Journal.counts_now
