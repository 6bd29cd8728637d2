use Rattle.fate_laws.proofs.Solutions.{step_keeps_ends}
use Rattle.fate_laws.proofs.equations.step_keeps_ends.Goals as goal

pub returns : goal.returns
returns c = λ ts depth k g input order flow a. step_keeps_ends ts depth k g input order flow a
