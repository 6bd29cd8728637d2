use Rattle.fate_laws.proofs.WalkOrders.{order_is_flow}
use Rattle.fate_laws.proofs.wiring.order_is_flow.Goals as goal

pub returns : goal.returns
returns c = λ g order ordered wired. order_is_flow g order ordered wired
