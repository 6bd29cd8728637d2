use Rattle.std.proofs.Common.{[], ◌∷◌, ◌++◌, arith}
use Rattle.flow_model.specs.Rows.{by_facts}
use Rattle.fate_laws.proofs.Later.{completions_add}
use Rattle.fate_laws.proofs.Stays.{tree_more}
use Rattle.fate_laws.proofs.stability.completion_keeps_ends.Goals as goal

pub returns : goal.returns
returns c = λ ts depth most fs f g i a settled.
    (tree_more ts depth (by_facts most fs) (by_facts most (fs ++ f ∷ [])) (completions_add most most fs (f ∷ []) (omega arith)) g i).kept a settled
