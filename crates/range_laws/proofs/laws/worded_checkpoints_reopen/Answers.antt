use Rattle.compaction_laws.proofs.Resumed.{stores_reopen}
use Rattle.range_laws.proofs.Stores.{checkpoints_reopen}
use Rattle.range_laws.proofs.laws.worded_checkpoints_reopen.Goals as goal

pub returns : goal.returns
returns c = checkpoints_reopen (λ image slot h s s' ts end stop counts is made fits shows.
    stores_reopen image slot h s s' ts end counts is made fits stop shows)
