use Rattle.fate_laws.proofs.Stays.{output_more}
use Rattle.fate_laws.proofs.stability.outputs_stay.Goals as goal

pub returns : goal.returns
returns c = λ ts depth k k' g i out h more. output_more ts depth k k' more g i out h
