use Rattle.machine_laws.proofs.Reading.{line_read_one}
use Rattle.machine_laws.proofs.laws.lines_are_one.Goals as goal

pub returns : goal.returns
returns c = line_read_one
