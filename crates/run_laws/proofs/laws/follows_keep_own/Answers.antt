use Rattle.run_laws.proofs.Follows.{follows_keep}
use Rattle.run_laws.proofs.laws.follows_keep_own.Goals as goal

pub returns : goal.returns
returns g c = follows_keep g.D.Disk g.met.D.Disk.counts_now g.met.D.Disk.only_now
