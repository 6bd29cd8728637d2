use Rattle.fate_laws.proofs.Solutions.{fates_solve, order_of}
use Rattle.fate_laws.proofs.equations.fates_solve.Goals as goal

pub returns : goal.returns
returns c = λ ts depth k g input well. let has = order_of ts depth g well in fates_solve ts depth k g input has.order has.flow has.wired
