use Rattle.fate_laws.proofs.Solutions.{are_fates, order_of}
use Rattle.fate_laws.proofs.equations.only_fates_solve.Goals as goal

pub returns : goal.returns
returns c = λ ts depth k g input fates e well solves. let has = order_of ts depth g well in are_fates ts depth k g input has.order has.flow has.wired fates e solves
