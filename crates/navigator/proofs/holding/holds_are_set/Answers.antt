use Rattle.navigator.proofs.HeldItems.{holds_set}
use Rattle.navigator.proofs.holding.holds_are_set.Goals as goal

pub returns : goal.returns
returns c = λ ts item change g s s' take e there changed. holds_set ts change take item g s s' e there changed
