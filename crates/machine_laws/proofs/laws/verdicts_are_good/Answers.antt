use Rattle.machine_laws.proofs.Good.{verdict_good}
use Rattle.machine_laws.proofs.laws.verdicts_are_good.Goals as goal

pub returns : goal.returns
returns c = verdict_good
