use Rattle.compaction_laws.proofs.Crashed.{history_compact}
use Rattle.compaction_laws.proofs.laws.histories_stay_compact.Goals as goal

pub returns : goal.returns
returns c = λ s s' ts. history_compact ts s s'
