use Rattle.compaction_laws.proofs.Compact.{anew_compact}
use Rattle.compaction_laws.proofs.laws.remade_are_compact.Goals as goal

pub returns : goal.returns
returns c = anew_compact
