use Rattle.compaction_laws.proofs.Kept.{kept_admitted}
use Rattle.compaction_laws.proofs.laws.kept_are_admitted.Goals as goal

pub returns : goal.returns
returns c = kept_admitted
