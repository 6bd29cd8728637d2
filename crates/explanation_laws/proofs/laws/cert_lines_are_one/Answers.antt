use Rattle.explanation_laws.proofs.Texts.{lines_one}
use Rattle.explanation_laws.proofs.laws.cert_lines_are_one.Goals as goal

pub returns : goal.returns
returns c = lines_one
