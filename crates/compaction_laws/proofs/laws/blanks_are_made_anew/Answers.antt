use Rattle.compaction_laws.proofs.Compact.{blank_anew}
use Rattle.compaction_laws.proofs.laws.blanks_are_made_anew.Goals as goal

pub returns : goal.returns
returns c = blank_anew
