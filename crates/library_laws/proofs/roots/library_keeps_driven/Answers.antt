use Rattle.library_laws.proofs.SameEvents.{driven_kept}
use Rattle.library_laws.proofs.roots.library_keeps_driven.Goals as goal

pub returns : goal.returns
returns c = λ ts' r q h s agrees driven. driven_kept ts' r q h s agrees driven
