use Rattle.root_laws.proofs.GoesOn.{completes_named}
use Rattle.root_laws.proofs.right.completes_named.Goals as goal

pub returns : goal.returns
returns c = λ ts q h queued input i i' item out given right lives awaits completes. completes_named ts q h queued input i i' right item out given lives awaits completes
