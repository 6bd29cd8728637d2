use Rattle.template_check.proofs.Together.{laid_together}
use Rattle.template_check.proofs.layout.laid_together.Goals as goal

pub returns : goal.returns
returns c = λ ts all depth. laid_together ts all depth
