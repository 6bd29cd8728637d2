use Rattle.machine_laws.proofs.Keyed.{verdict_free}
use Rattle.machine_laws.proofs.replies.verdicts_have_free_keys.Goals as goal

pub returns : goal.returns
returns c = λ a command t is. verdict_free a command t is
