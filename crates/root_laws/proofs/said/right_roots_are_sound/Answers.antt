use Rattle.root_laws.proofs.EndsSaid.{is_sound}
use Rattle.root_laws.proofs.said.right_roots_are_sound.Goals as goal

pub returns : goal.returns
returns c = λ ts q h queued input i a right settled. is_sound ts q h queued input i a right settled
