use Rattle.fate_laws.proofs.Solutions.{only_ends}
use Rattle.fate_laws.proofs.equations.step_keeps_only_ends.Goals as goal

pub returns : goal.returns
returns c = λ ts depth k g input order e flow solves a inside. only_ends ts depth k g input order flow e solves a inside
