use Rattle.machine.proofs.One.{adds_one}
use Rattle.machine.proofs.laws.additions_are_one.Goals as goal

pub returns : goal.returns
returns c = adds_one
