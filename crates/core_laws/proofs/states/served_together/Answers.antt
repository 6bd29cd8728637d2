use Rattle.core_laws.proofs.ServedTogether.{served_together}
use Rattle.core_laws.proofs.states.served_together.Goals as goal

pub returns : goal.returns
returns c = λ ts sound t g there. served_together ts sound t g there
