-- Histories that commands make whose words are in range: their transactions are, and so their records can be read back.
use Rattle.std.specs.Prelude.{◌≡◌, ◌⊎◌, ℕ, List, [], ◌∷◌}
use Rattle.std.specs.List.{All}
use Rattle.flow_core.specs.declared.judging.Verdict.TheVariants.{Do}
use Rattle.flow_disk.specs.Images.{Image}
use Rattle.flow_disk.specs.declared.disk.Slot.{Slot}
use Rattle.flow_model.specs.declared.commands.Command.{Command}
use Rattle.flow_model.specs.declared.transactions.Transaction.{Transaction}
use Rattle.flow_session.specs.Histories.{payloads_behind}
use Rattle.flow_session.specs.Refusing.{IsUnopened}
use Rattle.flow_session.specs.Replaying.{blank_under}
use Rattle.flow_txn.specs.Ranges.{TransactionFits}
use Rattle.machine.specs.States.{State}
use Rattle.machine.specs.Steps.{Steps}
use Rattle.machine.specs.Verdicts.{IsVerdict}
use Rattle.reopening_laws.specs.Making.{MadeByCommands}
use Rattle.reopening_laws.specs.Ranges.{IsWorded}
use Rattle.txn_log.specs.Stores.{Counts, store_of}
use Rattle.txn_log.specs.declared.header.Header.{Header}
use Rattle.txn_log.specs.declared.stops.LogStop.{LogStop}
use Rattle.txn_log.specs.declared.stops.LogStop.TheVariants.{StoreFault, NoMemory}
use Rattle.range_laws.specs.Standing.{StaysInBounds}

-- Commands with words in range make these transactions, one after the other.
abbrev pub MadeByWords : State → List Transaction → State → Type 0
MadeByWords s [] s' = s' ≡ s
MadeByWords s (t ∷ ts) s' =
    (command : Command) × (mid : State) × IsWorded command × IsVerdict s command (Do t) × Steps s t mid
    × MadeByWords mid ts s'

-- from a state within its bounds on, commands make them, each of them is in range, and the last state is within its
-- bounds
abbrev pub WordsMakeFitting : Type 0
WordsMakeFitting =
    (s : State) (ts : List Transaction) (s' : State) → StaysInBounds s → MadeByWords s ts s'
    → MadeByCommands s ts s' × All TransactionFits ts × StaysInBounds s'

-- so a store whose slot that counts has the records of such a history, and from which nothing was taken out, is opened
-- again, unless a fault or want of memory comes
abbrev pub WordedStoresReopen : Type 0
WordedStoresReopen =
    (image : Image) (slot : Slot) (h : Header) (ts : List Transaction) (end : ℕ) (s : State) (stop : LogStop)
    → store_of image ≡ Counts slot h (payloads_behind 0 ts) end → h.transactions ≡ 0
    → MadeByWords (blank_under h) ts s → IsUnopened image stop → (stop ≡ StoreFault) ⊎ (stop ≡ NoMemory)
