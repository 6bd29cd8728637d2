use Rattle.machine_laws.proofs.Good.{admitted_good}
use Rattle.machine_laws.proofs.laws.admitted_are_good.Goals as goal

pub returns : goal.returns
returns c = λ a number t is. admitted_good a number t is
