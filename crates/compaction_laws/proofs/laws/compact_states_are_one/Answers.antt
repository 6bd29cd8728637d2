use Rattle.compaction_laws.proofs.Compact.{compact_one}
use Rattle.compaction_laws.proofs.laws.compact_states_are_one.Goals as goal

pub returns : goal.returns
returns c = compact_one
