use Rattle.fate_laws.proofs.Stays.{fates_stay}
use Rattle.fate_laws.proofs.stability.fates_stay.Goals as goal

pub returns : goal.returns
returns c = λ ts depth k k' g i a steady settled more. fates_stay ts depth k k' steady more g i a settled
