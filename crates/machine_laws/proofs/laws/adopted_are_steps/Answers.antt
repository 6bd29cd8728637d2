use Rattle.machine_laws.proofs.AdoptedSteps.{adopted_step}
use Rattle.machine_laws.proofs.laws.adopted_are_steps.Goals as goal

pub returns : goal.returns
returns c = λ a b number t runs right is opens good place adopted. adopted_step a b number t runs right is opens good place adopted
