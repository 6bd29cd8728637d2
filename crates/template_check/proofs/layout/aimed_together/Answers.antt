use Rattle.template_check.proofs.Together.{aimed_together}
use Rattle.template_check.proofs.layout.aimed_together.Goals as goal

pub returns : goal.returns
returns c = λ ts all depth. aimed_together ts all depth
