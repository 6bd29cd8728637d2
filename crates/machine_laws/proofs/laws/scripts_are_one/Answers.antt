use Rattle.machine_laws.proofs.Scripts.{scripts}
use Rattle.machine_laws.proofs.laws.scripts_are_one.Goals as goal

pub returns : goal.returns
returns c = scripts
