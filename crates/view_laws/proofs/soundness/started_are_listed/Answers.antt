use Rattle.view_laws.proofs.ListedStarts.{started_listed}
use Rattle.view_laws.proofs.soundness.started_are_listed.Goals as goal

pub returns : goal.returns
returns c = λ ts depth k g i. started_listed ts depth k g i
