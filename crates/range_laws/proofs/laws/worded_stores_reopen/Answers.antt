use Rattle.reopening_laws.proofs.Reopened.{stores_reopen}
use Rattle.range_laws.proofs.Words.{worded_stores_reopen}
use Rattle.range_laws.proofs.laws.worded_stores_reopen.Goals as goal

pub returns : goal.returns
returns c = worded_stores_reopen (λ image slot h ts end s stop counts none made fits is.
    stores_reopen image slot h ts end s counts none made fits stop is)
