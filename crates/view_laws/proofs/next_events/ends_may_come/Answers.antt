use Rattle.view_laws.proofs.NextEvents.{ends_may_come}
use Rattle.view_laws.proofs.next_events.ends_may_come.Goals as goal

pub returns : goal.returns
returns c = λ r q h p may. ends_may_come r q h p may
