use Rattle.text_laws.proofs.Templates.{templates_one}
use Rattle.text_laws.proofs.meanings.templates_are_one.Goals as goal

pub returns : goal.returns
returns c = templates_one
