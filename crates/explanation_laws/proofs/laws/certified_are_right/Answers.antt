use Rattle.explanation_laws.proofs.Exact.{certified_exactly}
use Rattle.explanation_laws.proofs.laws.certified_are_right.Goals as goal

pub returns : goal.returns
returns c = λ b g depth most r line l. certified_exactly b g depth most r line l
