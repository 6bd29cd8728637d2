use Rattle.fate_laws.proofs.Later.{completions_add}
use Rattle.fate_laws.proofs.stability.completions_add.Goals as goal

pub returns : goal.returns
returns c = λ most most' fs later le. completions_add most most' fs later le
