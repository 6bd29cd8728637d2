use Rattle.root_laws.proofs.GoesOn.{stops_right}
use Rattle.root_laws.proofs.right.stops_right.Goals as goal

pub returns : goal.returns
returns c = λ ts q h queued input i i' right is. stops_right ts q h queued input i i' right is
