use Rattle.view_laws.proofs.WholeRuns.{scopes_right}
use Rattle.view_laws.proofs.NothingDue.{nothing}
use Rattle.view_laws.proofs.soundness.shown_fates_are_right.Goals as goal

pub returns : goal.returns
returns c = λ r q h path well fronts. scopes_right r q well h fronts (nothing r q) path
