use Rattle.compaction_laws.proofs.Crashed.{session_compact}
use Rattle.compaction_laws.proofs.laws.sessions_are_compact.Goals as goal

pub returns : goal.returns
returns c = session_compact
