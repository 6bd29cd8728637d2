use Rattle.root_laws.proofs.GoesOn.{starts_right}
use Rattle.root_laws.proofs.right.starts_right.Goals as goal

pub returns : goal.returns
returns c = λ ts q queue_of t number depth g name input i of served starts same. starts_right ts q queue_of t number depth g name input i of served starts same
