use Rattle.root_laws.proofs.GoesOn.{holds_right}
use Rattle.root_laws.proofs.right.holds_right.Goals as goal

pub returns : goal.returns
returns c = λ ts q h queued input i i' item change held right holds. holds_right ts q h queued input i i' right item change held holds
