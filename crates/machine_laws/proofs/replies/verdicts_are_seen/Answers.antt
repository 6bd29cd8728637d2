use Rattle.machine_laws.proofs.SeenVerdicts.{verdict_seen}
use Rattle.machine_laws.proofs.replies.verdicts_are_seen.Goals as goal

pub returns : goal.returns
returns c = verdict_seen
