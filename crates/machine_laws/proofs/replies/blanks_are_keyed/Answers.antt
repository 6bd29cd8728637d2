use Rattle.machine_laws.proofs.Keyed.{blank_keyed}
use Rattle.machine_laws.proofs.replies.blanks_are_keyed.Goals as goal

pub returns : goal.returns
returns c = λ a blank. blank_keyed a blank
