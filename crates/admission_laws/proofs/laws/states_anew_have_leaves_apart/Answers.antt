use Rattle.admission_laws.proofs.Histories.{anew_apart}
use Rattle.admission_laws.proofs.laws.states_anew_have_leaves_apart.Goals as goal

pub returns : goal.returns
returns c = anew_apart
