use Rattle.root_laws.proofs.GoesOn.{turns_named}
use Rattle.root_laws.proofs.right.turns_named.Goals as goal

pub returns : goal.returns
returns c = λ ts q h queued input i i' n message given right there takes. turns_named ts q h queued input i i' right n message given there takes
