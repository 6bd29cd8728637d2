use Rattle.navigator.proofs.DrivenShown.{quiet_is_whole}
use Rattle.navigator.proofs.runs.quiet_runs_are_whole.Goals as goal

pub returns : goal.returns
returns c = λ r q h s a is quiet. quiet_is_whole r q is.root h s a is quiet
