use Rattle.text_laws.proofs.Templates.{people_one}
use Rattle.text_laws.proofs.meanings.people_are_one.Goals as goal

pub returns : goal.returns
returns c = people_one
