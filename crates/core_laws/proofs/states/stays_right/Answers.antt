use Rattle.core_laws.proofs.Making.{state_right}
use Rattle.core_laws.proofs.states.stays_right.Goals as goal

pub returns : goal.returns
returns c = λ c c' t runs right makes. state_right c c' runs right t makes
