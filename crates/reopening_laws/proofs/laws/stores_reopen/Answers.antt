use Rattle.reopening_laws.proofs.Reopened.{stores_reopen}
use Rattle.reopening_laws.proofs.laws.stores_reopen.Goals as goal

pub returns : goal.returns
returns c = λ image slot h ts end s stop counts none made fits is.
    stores_reopen image slot h ts end s counts none made fits stop is
