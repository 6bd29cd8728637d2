use Rattle.scope_laws.proofs.Orders.{order_free}
use Rattle.scope_laws.proofs.scopes.quiet_roots_are_order_free.Goals as goal

pub returns : goal.returns
returns c = order_free
