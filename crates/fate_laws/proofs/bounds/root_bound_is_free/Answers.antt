use Rattle.flow_model.specs.Rows.{deepest}
use Rattle.fate_laws.proofs.EnoughAttempts.{bound_is_free}
use Rattle.fate_laws.proofs.bounds.root_bound_is_free.Goals as goal

pub returns : goal.returns
returns c = λ ts most most' fs g input well enough enough'. (bound_is_free ts deepest most most' fs g input well enough enough').output
