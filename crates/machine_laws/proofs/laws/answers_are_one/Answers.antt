use Rattle.machine_laws.proofs.Scripts.{answer_one}
use Rattle.machine_laws.proofs.laws.answers_are_one.Goals as goal

pub returns : goal.returns
returns c = answer_one
