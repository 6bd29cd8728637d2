use Rattle.admission_laws.proofs.Histories.{made_apart}
use Rattle.admission_laws.proofs.laws.histories_keep_leaves_apart.Goals as goal

pub returns : goal.returns
returns c = made_apart
