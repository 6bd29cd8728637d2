use Rattle.navigator.proofs.DrivenShown.{turn_gives}
use Rattle.navigator.proofs.runs.turns_give.Goals as goal

pub returns : goal.returns
returns c = λ r q h s s' m given is started legal does. turn_gives r q is.root m h s s' given is started legal does
