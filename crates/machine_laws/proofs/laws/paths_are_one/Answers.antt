use Rattle.worklist_laws.proofs.Spelled.{spells_one}
use Rattle.machine_laws.proofs.laws.paths_are_one.Goals as goal

pub returns : goal.returns
returns c = spells_one
