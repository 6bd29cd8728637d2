use Rattle.compaction_laws.proofs.Resumed.{unbroken}
use Rattle.compaction_laws.proofs.laws.checkpoints_reopen.Goals as goal

pub returns : goal.returns
returns c = λ h s s' ts place is made fits breaks. unbroken h s s' ts is made fits place breaks
