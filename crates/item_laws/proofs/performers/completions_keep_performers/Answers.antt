use Rattle.item_laws.proofs.KeptEvents.{completed_keeps}
use Rattle.item_laws.proofs.performers.completions_keep_performers.Goals as goal

pub returns : goal.returns
returns c = λ ts clock item by g s s' given items happening. completed_keeps ts clock item by g s s' given items happening
