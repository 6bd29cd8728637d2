use Rattle.compaction_laws.proofs.Crashed.{calls_resume}
use Rattle.compaction_laws.proofs.laws.calls_resume.Goals as goal

pub returns : goal.returns
returns g c = calls_resume g.J.Journal.tells g.J.Journal.moment g.J.Journal.left_since
