use Rattle.run_laws.proofs.Follows.{correct_follows}
use Rattle.run_laws.proofs.laws.correct_follows_keep_own.Goals as goal

pub returns : goal.returns
returns g c = correct_follows g.D.Disk g.met.D.Disk.counts_now g.met.D.Disk.only_now
