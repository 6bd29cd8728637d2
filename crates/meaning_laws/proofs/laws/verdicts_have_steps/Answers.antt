use Rattle.meaning_laws.proofs.Verdicts.{verdict_steps}
use Rattle.meaning_laws.proofs.laws.verdicts_have_steps.Goals as goal

pub returns : goal.returns
returns c = verdict_steps
