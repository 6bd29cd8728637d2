use Rattle.machine_laws.proofs.Obeyed.{record_adopted}
use Rattle.machine_laws.proofs.replies.records_are_adopted.Goals as goal

pub returns : goal.returns
returns c = λ a b number t runs right keyed is admitted adopted. record_adopted a b number t runs right keyed is
    admitted adopted
