use Rattle.root_laws.proofs.GoesOn.{completes_right}
use Rattle.root_laws.proofs.right.completes_right.Goals as goal

pub returns : goal.returns
returns c = λ ts q queue_of h queued input i i' item out given right lives awaits completes agrees. completes_right ts q h queued input i i' right queue_of item out given lives awaits completes agrees
