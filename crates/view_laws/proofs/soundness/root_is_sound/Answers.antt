use Rattle.view_laws.proofs.WholeRuns.{sound}
use Rattle.view_laws.proofs.NothingDue.{nothing}
use Rattle.view_laws.proofs.soundness.root_is_sound.Goals as goal

pub returns : goal.returns
returns c = λ r q h a well fronts settled. (sound r q well h fronts (nothing r q)).kept a settled
