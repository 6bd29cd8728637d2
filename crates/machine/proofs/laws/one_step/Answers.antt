use Rattle.machine.proofs.One.{step}
use Rattle.machine.proofs.laws.one_step.Goals as goal

pub returns : goal.returns
returns c = step
