use Rattle.view_laws.proofs.NextEvents.{signals_may_come}
use Rattle.view_laws.proofs.next_events.signals_may_come.Goals as goal

pub returns : goal.returns
returns c = λ r q h p a b v may. signals_may_come r q h p a b v may
