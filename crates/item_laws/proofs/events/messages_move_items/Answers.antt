use Rattle.item_laws.proofs.Moved.{taken_moves}
use Rattle.item_laws.proofs.events.messages_move_items.Goals as goal

pub returns : goal.returns
returns c = λ ts clock message note g s s' given items takes is. taken_moves ts clock message note g s s' given items takes is
