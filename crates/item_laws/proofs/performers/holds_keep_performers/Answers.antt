use Rattle.item_laws.proofs.HeldKept.{holds_keep}
use Rattle.item_laws.proofs.performers.holds_keep_performers.Goals as goal

pub returns : goal.returns
returns c = λ ts item change g s s' take e there changed. holds_keep ts change take item g s s' e there changed
