use Rattle.text_laws.proofs.Conditions.{resolved_one}
use Rattle.text_laws.proofs.meanings.conditions_are_one.Goals as goal

pub returns : goal.returns
returns c = resolved_one
