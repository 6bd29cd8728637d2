use Rattle.meaning_laws.proofs.Orders.{level_order_there}
use Rattle.meaning_laws.proofs.laws.acyclic_graphs_have_orders.Goals as goal

pub returns : goal.returns
returns c = level_order_there
