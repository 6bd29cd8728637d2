use Rattle.item_laws.proofs.KeptEvents.{taken_keeps}
use Rattle.item_laws.proofs.performers.messages_keep_performers.Goals as goal

pub returns : goal.returns
returns c = λ ts clock message note g s s' given items takes is. taken_keeps ts clock message note g s s' given items takes is
