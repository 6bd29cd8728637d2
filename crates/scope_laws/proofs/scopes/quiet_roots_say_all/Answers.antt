use Rattle.scope_laws.proofs.Orders.{whole_so}
use Rattle.scope_laws.proofs.scopes.quiet_roots_say_all.Goals as goal

pub returns : goal.returns
returns c = λ state runs right root i live a lives quiet. whole_so state runs right root i live lives quiet a
