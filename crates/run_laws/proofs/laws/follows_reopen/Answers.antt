use Rattle.run_laws.proofs.Follows.{follows_reopen}
use Rattle.run_laws.proofs.laws.follows_reopen.Goals as goal

pub returns : goal.returns
returns g c = follows_reopen g.D.Disk g.met.D.Disk.counts_now g.met.D.Disk.only_now
