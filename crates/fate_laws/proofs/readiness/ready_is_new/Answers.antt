use Rattle.fate_laws.proofs.ReadyItems.{ready_is_new}
use Rattle.fate_laws.proofs.readiness.ready_is_new.Goals as goal

pub returns : goal.returns
returns c = λ ts g root input fs n f well less ready. ready_is_new ts g root input fs n f well less ready
