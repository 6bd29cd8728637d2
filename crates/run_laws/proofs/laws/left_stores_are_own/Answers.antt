use Rattle.run_laws.proofs.Lives.{left_stores_own}
use Rattle.run_laws.proofs.laws.left_stores_are_own.Goals as goal

pub returns : goal.returns
returns g c = left_stores_own g.D.Disk g.met.D.Disk.counts_now g.met.D.Disk.only_now
