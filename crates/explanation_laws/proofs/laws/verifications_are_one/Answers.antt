use Rattle.explanation_laws.proofs.Verdicts.{verdicts_one}
use Rattle.explanation_laws.proofs.laws.verifications_are_one.Goals as goal

pub returns : goal.returns
returns c = verdicts_one
