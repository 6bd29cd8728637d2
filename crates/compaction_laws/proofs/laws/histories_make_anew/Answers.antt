use Rattle.compaction_laws.proofs.Compact.{history_anew}
use Rattle.compaction_laws.proofs.laws.histories_make_anew.Goals as goal

pub returns : goal.returns
returns c = λ s s' ts. history_anew ts s s'
