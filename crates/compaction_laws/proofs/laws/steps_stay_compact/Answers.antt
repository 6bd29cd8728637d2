use Rattle.compaction_laws.proofs.Compact.{step_compact}
use Rattle.compaction_laws.proofs.laws.steps_stay_compact.Goals as goal

pub returns : goal.returns
returns c = step_compact
