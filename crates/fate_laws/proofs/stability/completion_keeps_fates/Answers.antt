use Rattle.std.proofs.Common.{[], ◌∷◌, ◌++◌, arith}
use Rattle.flow_model.specs.Rows.{by_facts}
use Rattle.fate_laws.proofs.Later.{completions_add, steady}
use Rattle.fate_laws.proofs.Stays.{fates_stay}
use Rattle.fate_laws.proofs.stability.completion_keeps_fates.Goals as goal

pub returns : goal.returns
returns c = λ ts depth most fs f g i a settled.
    fates_stay ts depth (by_facts most fs) (by_facts most (fs ++ f ∷ [])) (steady most fs) (completions_add most most fs (f ∷ []) (omega arith)) g i a settled
