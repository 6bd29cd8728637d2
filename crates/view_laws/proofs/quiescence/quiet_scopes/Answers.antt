use Rattle.view_laws.proofs.WholeRuns.{scopes_exact}
use Rattle.view_laws.proofs.NothingDue.{nothing}
use Rattle.view_laws.proofs.quiescence.quiet_scopes.Goals as goal

pub returns : goal.returns
returns c = λ r q h path well is. scopes_exact r q well h is.legal (nothing r q) is.runs is.started is.empty path
