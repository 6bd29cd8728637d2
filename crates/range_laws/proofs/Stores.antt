-- Stores of states within their bounds: what a crash leaves is opened to such states, and so is one behind a checkpoint.
use Rattle.std.proofs.Common.{take, sym, subst}
use Rattle.compaction_laws.specs.OwnStores.{OwnStoresReopen}
use Rattle.compaction_laws.specs.Resuming.{CheckpointedStoresReopen}
use Rattle.range_laws.specs.Standing.{StaysInBounds}
use Rattle.range_laws.specs.Stores.{OwnStoresOpenInBounds, WordedCheckpointsReopen}
use Rattle.range_laws.proofs.Histories.{history_in_bounds}
use Rattle.range_laws.proofs.Words.{words_fit}

pub own_in_bounds : OwnStoresReopen → OwnStoresOpenInBounds
own_in_bounds reopen s ts image c ok own opened =
    let mid = own.1 in
    subst StaysInBounds (sym ((reopen mid image own.3).1 c opened))
    (history_in_bounds s (take own.0 ts) mid ok own.2)

pub checkpoints_reopen : CheckpointedStoresReopen → WordedCheckpointsReopen
checkpoints_reopen reopen image slot h s s' ts end stop counts is ok words shows =
    let fine = words_fit s ts s' ok words in
    reopen image slot h s s' ts end stop counts is fine.0 fine.1 shows
