use Rattle.compaction_laws.proofs.Opened.{opened_compact}
use Rattle.compaction_laws.proofs.laws.opened_are_compact.Goals as goal

pub returns : goal.returns
returns c = opened_compact
