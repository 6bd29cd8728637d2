use Rattle.machine_laws.proofs.Keyed.{admitted_free}
use Rattle.machine_laws.proofs.replies.admitted_have_free_keys.Goals as goal

pub returns : goal.returns
returns c = λ a number t is. admitted_free a number t is
