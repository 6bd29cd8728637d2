use Rattle.library_laws.proofs.SameViews.{root_kept}
use Rattle.library_laws.proofs.roots.library_keeps_roots.Goals as goal

pub returns : goal.returns
returns c = λ ts' r q h s agrees root legal shows. root_kept ts' r q h s agrees root legal shows
