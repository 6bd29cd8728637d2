use Rattle.run_laws.proofs.Runs.{correct_keep}
use Rattle.run_laws.proofs.laws.correct_runs_keep_own.Goals as goal

pub returns : goal.returns
returns g c = correct_keep g.D.Disk g.met.D.Disk.counts_now g.met.D.Disk.only_now
