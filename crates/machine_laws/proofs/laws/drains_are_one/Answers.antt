use Rattle.machine_laws.proofs.Draining.{drain_one}
use Rattle.machine_laws.proofs.laws.drains_are_one.Goals as goal

pub returns : goal.returns
returns c = drain_one
