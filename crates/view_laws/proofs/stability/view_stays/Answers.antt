use Rattle.view_laws.proofs.WholeRuns.{view_stays}
use Rattle.view_laws.proofs.stability.view_stays.Goals as goal

pub returns : goal.returns
returns c = λ r e h a settled. (view_stays r e h).kept a settled
