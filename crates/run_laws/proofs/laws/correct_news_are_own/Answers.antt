use Rattle.run_laws.proofs.Making.{correct_news}
use Rattle.run_laws.proofs.laws.correct_news_are_own.Goals as goal

pub returns : goal.returns
returns g c = correct_news g.D.Disk
