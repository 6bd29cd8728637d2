use Rattle.view_laws.proofs.NextEvents.{begins_may_come}
use Rattle.view_laws.proofs.next_events.begins_may_come.Goals as goal

pub returns : goal.returns
returns c = λ r q h p may. begins_may_come r q h p may
