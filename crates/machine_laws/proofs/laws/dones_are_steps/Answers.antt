use Rattle.machine_laws.proofs.Stepping.{dones}
use Rattle.machine_laws.proofs.laws.dones_are_steps.Goals as goal

pub returns : goal.returns
returns c = λ a b item who settings does e there seen exactly has. dones a b item who settings does e there seen
    exactly has
