use Rattle.compaction_laws.proofs.Opened.{opened_one}
use Rattle.compaction_laws.proofs.laws.opened_are_one.Goals as goal

pub returns : goal.returns
returns c = opened_one
