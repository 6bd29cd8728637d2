use Rattle.item_laws.proofs.Moved.{completed_moves}
use Rattle.item_laws.proofs.events.completions_move_items.Goals as goal

pub returns : goal.returns
returns c = λ ts clock item by g s s' given items happening. completed_moves ts clock item by g s s' given items happening
