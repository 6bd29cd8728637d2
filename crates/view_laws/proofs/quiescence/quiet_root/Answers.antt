use Rattle.view_laws.proofs.WholeRuns.{quiet}
use Rattle.view_laws.proofs.NothingDue.{nothing}
use Rattle.view_laws.proofs.quiescence.quiet_root.Goals as goal

pub returns : goal.returns
returns c = λ r q h well is. quiet r q well h is.legal (nothing r q) is.runs is.started is.empty
