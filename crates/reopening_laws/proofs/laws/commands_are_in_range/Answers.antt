use Rattle.reopening_laws.proofs.Ranges.{command_in_range}
use Rattle.reopening_laws.proofs.laws.commands_are_in_range.Goals as goal

pub returns : goal.returns
returns c = λ s command t stands fine is. command_in_range s stands command t fine is
