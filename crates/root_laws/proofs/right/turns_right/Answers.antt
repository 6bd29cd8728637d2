use Rattle.root_laws.proofs.GoesOn.{turns_right}
use Rattle.root_laws.proofs.right.turns_right.Goals as goal

pub returns : goal.returns
returns c = λ ts q queue_of h queued input i i' n message given right there takes agrees. turns_right ts q h queued input i i' right queue_of n message given there takes agrees
