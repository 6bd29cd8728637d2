use Rattle.compaction_laws.proofs.Resumed.{stores_reopen}
use Rattle.compaction_laws.proofs.laws.checkpointed_stores_reopen.Goals as goal

pub returns : goal.returns
returns c = λ image slot h s s' ts end stop counts is made fits shows.
    stores_reopen image slot h s s' ts end counts is made fits stop shows
