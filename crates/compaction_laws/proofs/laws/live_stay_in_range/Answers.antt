use Rattle.compaction_laws.proofs.Since.{history_fits}
use Rattle.compaction_laws.proofs.laws.live_stay_in_range.Goals as goal

pub returns : goal.returns
returns c = λ s s' ts. history_fits ts s s'
