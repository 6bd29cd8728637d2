use Rattle.worklist_laws.proofs.OpenAsked.{verdict_asks}
use Rattle.worklist_laws.proofs.asked.verdicts_ask_open.Goals as goal

pub returns : goal.returns
returns c = verdict_asks
