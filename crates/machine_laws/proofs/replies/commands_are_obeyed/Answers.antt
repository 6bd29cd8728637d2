use Rattle.machine_laws.proofs.Obeyed.{command_obeyed}
use Rattle.machine_laws.proofs.replies.commands_are_obeyed.Goals as goal

pub returns : goal.returns
returns c = λ a b command t n runs right keyed is applied names. command_obeyed a b command t n runs right keyed is applied
    names
