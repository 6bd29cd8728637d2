use Rattle.run_laws.proofs.Runs.{keep_own}
use Rattle.run_laws.proofs.laws.runs_keep_own.Goals as goal

pub returns : goal.returns
returns g c = keep_own g.D.Disk g.met.D.Disk.counts_now g.met.D.Disk.only_now
