use Rattle.scope_laws.proofs.Quiet.{quiet_root}
use Rattle.scope_laws.proofs.scopes.quiet_states_have_quiet_roots.Goals as goal

pub returns : goal.returns
returns c = λ state root quiet. quiet_root root state.queues quiet
