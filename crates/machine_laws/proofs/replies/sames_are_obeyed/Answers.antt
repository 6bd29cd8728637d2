use Rattle.machine_laws.proofs.Obeyed.{same_obeyed}
use Rattle.machine_laws.proofs.replies.sames_are_obeyed.Goals as goal

pub returns : goal.returns
returns c = same_obeyed
