use Rattle.machine_laws.proofs.Obeyed.{refusal_obeyed}
use Rattle.machine_laws.proofs.replies.refusals_are_obeyed.Goals as goal

pub returns : goal.returns
returns c = refusal_obeyed
