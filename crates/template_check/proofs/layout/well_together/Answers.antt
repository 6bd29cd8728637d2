use Rattle.template_check.proofs.Together.{well_together}
use Rattle.template_check.proofs.layout.well_together.Goals as goal

pub returns : goal.returns
returns c = λ ts all depth. well_together ts all depth
