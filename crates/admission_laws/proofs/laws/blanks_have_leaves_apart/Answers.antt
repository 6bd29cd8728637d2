use Rattle.admission_laws.proofs.Histories.{none_apart}
use Rattle.admission_laws.proofs.laws.blanks_have_leaves_apart.Goals as goal

pub returns : goal.returns
returns c = λ queues limit. none_apart
