use Rattle.view_laws.proofs.NextEvents.{completions_may_come}
use Rattle.view_laws.proofs.next_events.completions_may_come.Goals as goal

pub returns : goal.returns
returns c = λ r q h f may. completions_may_come r q h f may
