use Rattle.std.proofs.Common.{◌+◌, [], ◌∷◌, ◌++◌, arith}
use Rattle.flow_model.specs.Rows.{by_facts, deepest}
use Rattle.fate_laws.proofs.Later.{completions_add}
use Rattle.fate_laws.proofs.Stays.{output_more}
use Rattle.fate_laws.proofs.stability.completion_keeps_output.Goals as goal

pub returns : goal.returns
returns c = λ ts g i out most fs f h.
    output_more ts (deepest + 1) (by_facts most fs) (by_facts most (fs ++ f ∷ [])) (completions_add most most fs (f ∷ []) (omega arith)) g i out h
