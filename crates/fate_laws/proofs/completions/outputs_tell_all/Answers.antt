use Rattle.fate_laws.proofs.Items.{tell_same}
use Rattle.fate_laws.proofs.completions.outputs_tell_all.Goals as goal

pub returns : goal.returns
returns c = λ most fs fs' same. tell_same most fs fs' same
