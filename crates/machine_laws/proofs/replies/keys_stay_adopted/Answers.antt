use Rattle.machine_laws.proofs.Keyed.{adopted_keyed}
use Rattle.machine_laws.proofs.replies.keys_stay_adopted.Goals as goal

pub returns : goal.returns
returns c = λ a b number t runs right is good free keyed adopted. adopted_keyed a b number t runs right is
    good free keyed adopted
