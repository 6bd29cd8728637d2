use Rattle.fate_laws.proofs.Everywhere.{fates_solve_below}
use Rattle.fate_laws.proofs.equations.fates_solve_below.Goals as goal

pub returns : goal.returns
returns c = λ ts depth k g input path well. fates_solve_below ts depth k g input path well
