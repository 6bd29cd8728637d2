use Rattle.compaction_laws.proofs.Resumed.{resumed}
use Rattle.compaction_laws.proofs.laws.checkpoints_are_resumed.Goals as goal

pub returns : goal.returns
returns c = λ h s s' ts core is made fits leads. resumed h s s' ts is made fits core leads
