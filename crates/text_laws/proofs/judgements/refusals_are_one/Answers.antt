use Rattle.text_laws.proofs.Judged.{refused_one}
use Rattle.text_laws.proofs.judgements.refusals_are_one.Goals as goal

pub returns : goal.returns
returns c = refused_one
