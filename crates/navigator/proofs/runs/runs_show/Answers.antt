use Rattle.navigator.proofs.DrivenShown.{shows_run}
use Rattle.navigator.proofs.runs.runs_show.Goals as goal

pub returns : goal.returns
returns c = λ r q h s is. shows_run r q is.root h s is.legal is.runs is.driven
