use Rattle.fate_laws.proofs.ReadyItems.{ready_counts}
use Rattle.fate_laws.proofs.readiness.ready_counts.Goals as goal

pub returns : goal.returns
returns c = λ ts g root input fs well ready i f is. ready_counts ts g root input fs well ready i f is
