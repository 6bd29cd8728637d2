use Rattle.compaction_laws.proofs.Compact.{live_make}
use Rattle.compaction_laws.proofs.laws.live_make_the_state.Goals as goal

pub returns : goal.returns
returns c = live_make
