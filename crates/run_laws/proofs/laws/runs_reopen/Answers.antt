use Rattle.run_laws.proofs.Runs.{reopen}
use Rattle.run_laws.proofs.laws.runs_reopen.Goals as goal

pub returns : goal.returns
returns g c = reopen g.D.Disk g.met.D.Disk.counts_now g.met.D.Disk.only_now
