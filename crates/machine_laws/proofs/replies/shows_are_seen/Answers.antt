use Rattle.machine_laws.proofs.SeenShows.{show_seen}
use Rattle.machine_laws.proofs.replies.shows_are_seen.Goals as goal

pub returns : goal.returns
returns c = show_seen
