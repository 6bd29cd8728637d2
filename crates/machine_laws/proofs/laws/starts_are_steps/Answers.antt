use Rattle.machine_laws.proofs.Stepping.{starts}
use Rattle.machine_laws.proofs.laws.starts_are_steps.Goals as goal

pub returns : goal.returns
returns c = λ a b root process version starter key settings does unused place newest runs. starts a b root process
    version starter key settings does unused place newest runs
