use Rattle.compaction_laws.proofs.Compact.{step_anew}
use Rattle.compaction_laws.proofs.laws.verdicts_make_anew.Goals as goal

pub returns : goal.returns
returns c = step_anew
