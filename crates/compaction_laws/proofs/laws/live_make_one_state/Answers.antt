use Rattle.compaction_laws.proofs.Compact.{live_one}
use Rattle.compaction_laws.proofs.laws.live_make_one_state.Goals as goal

pub returns : goal.returns
returns c = live_one
