use Rattle.item_laws.proofs.HeldItem.{item_held}
use Rattle.item_laws.proofs.events.holds_move_no_item.Goals as goal

pub returns : goal.returns
returns c = λ ts item change g s s' take state opens changed. item_held ts change take item g s s' state opens changed
