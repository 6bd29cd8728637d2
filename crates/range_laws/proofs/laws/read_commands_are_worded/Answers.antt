use Rattle.range_laws.proofs.Worded.{read_worded}
use Rattle.range_laws.proofs.laws.read_commands_are_worded.Goals as goal

pub returns : goal.returns
returns c = read_worded
