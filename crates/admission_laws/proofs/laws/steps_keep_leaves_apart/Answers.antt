use Rattle.admission_laws.proofs.Histories.{step_apart}
use Rattle.admission_laws.proofs.laws.steps_keep_leaves_apart.Goals as goal

pub returns : goal.returns
returns c = step_apart
