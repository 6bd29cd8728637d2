use Rattle.machine_laws.proofs.Ordering.{worklist_one}
use Rattle.machine_laws.proofs.laws.worklists_are_one.Goals as goal

pub returns : goal.returns
returns c = worklist_one
