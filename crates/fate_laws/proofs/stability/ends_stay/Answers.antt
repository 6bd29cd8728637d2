use Rattle.fate_laws.proofs.Stays.{tree_more}
use Rattle.fate_laws.proofs.stability.ends_stay.Goals as goal

pub returns : goal.returns
returns c = λ ts depth k k' g i a settled more. (tree_more ts depth k k' more g i).kept a settled
