use Rattle.staff_worklists.proofs.Seen as seen
use Rattle.staff_worklists.proofs.laws.seen_where_allowed.Goals as goal

pub returns : goal.returns
returns c = seen.seen_where_allowed
