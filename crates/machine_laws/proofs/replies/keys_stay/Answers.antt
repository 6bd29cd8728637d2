use Rattle.machine_laws.proofs.Keyed.{applied_keyed}
use Rattle.machine_laws.proofs.replies.keys_stay.Goals as goal

pub returns : goal.returns
returns c = λ a b t runs right is good free keyed applied. applied_keyed a b t runs right is good free keyed applied
