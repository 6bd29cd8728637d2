use Rattle.fate_laws.proofs.EnoughAttempts.{bound_is_free}
use Rattle.fate_laws.proofs.bounds.bound_is_free.Goals as goal

pub returns : goal.returns
returns c = λ ts depth most most' fs g input well enough enough'. bound_is_free ts depth most most' fs g input well enough enough'
