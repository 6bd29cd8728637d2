use Rattle.template_check.proofs.Together.{performed_together}
use Rattle.template_check.proofs.layout.performed_together.Goals as goal

pub returns : goal.returns
returns c = λ ts all depth. performed_together ts all depth
