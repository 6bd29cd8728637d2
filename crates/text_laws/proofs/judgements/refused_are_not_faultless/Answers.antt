use Rattle.text_laws.proofs.Judged.{refused_faultless}
use Rattle.text_laws.proofs.judgements.refused_are_not_faultless.Goals as goal

pub returns : goal.returns
returns c = refused_faultless
