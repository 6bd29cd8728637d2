use Rattle.view_laws.proofs.WholeRuns.{scopes_sound}
use Rattle.view_laws.proofs.NothingDue.{nothing}
use Rattle.view_laws.proofs.soundness.scopes_are_sound.Goals as goal

pub returns : goal.returns
returns c = λ r q h path well fronts. scopes_sound r q well h fronts (nothing r q) path
