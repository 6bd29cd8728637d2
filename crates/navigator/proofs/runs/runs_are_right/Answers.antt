use Rattle.navigator.proofs.DrivenShown.{run_is_right}
use Rattle.navigator.proofs.runs.runs_are_right.Goals as goal

pub returns : goal.returns
returns c = λ r q h s a is settled. run_is_right r q is.root h s a is settled
