use Rattle.view_laws.proofs.WholeRuns.{due_stays}
use Rattle.view_laws.proofs.stability.due_stays.Goals as goal

pub returns : goal.returns
returns c = λ r q e h m. due_stays r q e h m
