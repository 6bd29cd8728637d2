use Rattle.view_laws.proofs.WholeRuns.{view_fates_stay}
use Rattle.view_laws.proofs.stability.view_fates_stay.Goals as goal

pub returns : goal.returns
returns c = λ r e h a settled. view_fates_stay r e h a settled
