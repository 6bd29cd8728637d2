use Rattle.navigator.proofs.DrivenShown.{complete_gives}
use Rattle.navigator.proofs.runs.completions_give.Goals as goal

pub returns : goal.returns
returns c = λ r q h s s' f given is started legal does. complete_gives r q is.root f h s s' given is started legal does
