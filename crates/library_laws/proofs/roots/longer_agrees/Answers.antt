use Rattle.library_laws.proofs.SameGraphs.{longer_agrees}
use Rattle.library_laws.proofs.roots.longer_agrees.Goals as goal

pub returns : goal.returns
returns c = λ ts more. longer_agrees ts more
