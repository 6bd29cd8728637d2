use Rattle.compaction_laws.proofs.Judged.{ready}
use Rattle.compaction_laws.proofs.laws.verdicts_are_ready.Goals as goal

pub returns : goal.returns
returns c = λ s command t is. (ready s t command is).0
