use Rattle.worklist_laws.proofs.OpenAsked.{admitted_asks}
use Rattle.worklist_laws.proofs.asked.admitted_ask_open.Goals as goal

pub returns : goal.returns
returns c = λ state number t is. admitted_asks state number t is
