use Rattle.view_laws.proofs.WholeRuns.{scopes_reached}
use Rattle.view_laws.proofs.NothingDue.{nothing}
use Rattle.view_laws.proofs.soundness.started_scopes_are_reached.Goals as goal

pub returns : goal.returns
returns c = λ r q h path well fronts. scopes_reached r q well h fronts (nothing r q) path
