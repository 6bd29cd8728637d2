use Rattle.fate_laws.proofs.Solutions.{sources_settled, order_of}
use Rattle.fate_laws.proofs.equations.fed_where_known.Goals as goal

pub returns : goal.returns
returns c = λ ts depth k g input a activity well is known. let has = order_of ts depth g well in sources_settled ts depth k g input has.order has.flow has.wired a activity known
