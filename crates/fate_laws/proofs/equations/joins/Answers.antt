use Rattle.fate_laws.proofs.JoinRules.{joins}
use Rattle.fate_laws.proofs.equations.joins.Goals as goal

pub returns : goal.returns
returns c = λ vs. joins vs
