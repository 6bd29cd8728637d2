use Rattle.machine_laws.proofs.Verdicts.{commands}
use Rattle.machine_laws.proofs.laws.commands_are_one.Goals as goal

pub returns : goal.returns
returns c = commands
