use Rattle.deadline_laws.proofs.Overdue.{overdue_is_one}
use Rattle.deadline_laws.proofs.laws.overdue_is_one.Goals as goal

pub returns : goal.returns
returns c = overdue_is_one
