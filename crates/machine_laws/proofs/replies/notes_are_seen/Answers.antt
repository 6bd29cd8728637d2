use Rattle.machine_laws.proofs.SeenVerdicts.{note_seen}
use Rattle.machine_laws.proofs.replies.notes_are_seen.Goals as goal

pub returns : goal.returns
returns c = λ a b t n is names. note_seen a b t n is names
