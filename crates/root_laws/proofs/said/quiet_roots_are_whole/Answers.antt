use Rattle.root_laws.proofs.EndsSaid.{is_whole}
use Rattle.root_laws.proofs.said.quiet_roots_are_whole.Goals as goal

pub returns : goal.returns
returns c = λ ts q h queued input i a right lives empty. is_whole ts q h queued input i a right lives empty
