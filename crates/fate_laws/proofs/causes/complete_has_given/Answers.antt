use Rattle.fate_laws.proofs.Peopled.{output_given}
use Rattle.fate_laws.proofs.causes.complete_has_given.Goals as goal

pub returns : goal.returns
returns c = λ ts depth k g input out well done. output_given ts depth k g input out well done
