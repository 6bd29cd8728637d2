use Rattle.root_laws.proofs.GoesOn.{mode_right}
use Rattle.root_laws.proofs.right.mode_right.Goals as goal

pub returns : goal.returns
returns c = λ ts q h queued input i i' suspended right is. mode_right ts q h queued input i i' right suspended is
