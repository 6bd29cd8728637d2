-- What is opened of a store is within its bounds again, and a store behind a checkpoint is opened again.
use Rattle.std.specs.Prelude.{◌≡◌, ◌⊎◌, ℕ, List}
use Rattle.flow_core.specs.declared.state.Core.{Core}
use Rattle.flow_disk.specs.Images.{Image}
use Rattle.flow_disk.specs.declared.disk.Slot.{Slot}
use Rattle.flow_model.specs.declared.transactions.Transaction.{Transaction}
use Rattle.flow_session.specs.Refusing.{IsOpenedTo, IsUnopened}
use Rattle.machine.specs.States.{State}
use Rattle.machine_laws.specs.Viewed.{view}
use Rattle.txn_log.specs.Stores.{Counts, store_of}
use Rattle.txn_log.specs.declared.header.Header.{Header}
use Rattle.txn_log.specs.declared.stops.LogStop.{LogStop}
use Rattle.txn_log.specs.declared.stops.LogStop.TheVariants.{StoreFault, NoMemory}
use Rattle.compaction_laws.specs.OwnStores.{IsOwnAfterSome}
use Rattle.compaction_laws.specs.Resuming.{IsCheckpointOf, records_since}
use Rattle.range_laws.specs.Standing.{StaysInBounds}
use Rattle.range_laws.specs.Words.{MadeByWords}

-- From a state within its bounds on, whatever a crash leaves of an own store is opened to no state of the engine but one
-- within its bounds; so the next session begins within them.
abbrev pub OwnStoresOpenInBounds : Type 0
OwnStoresOpenInBounds =
    (s : State) (ts : List Transaction) (image : Image) (c : Core) → StaysInBounds s → IsOwnAfterSome s ts image
    → IsOpenedTo image c → StaysInBounds (view c)

-- A store whose slot that counts has the records of a checkpoint of such a state, and those of what commands with words
-- in range made since, is opened again, unless a fault or want of memory comes.
abbrev pub WordedCheckpointsReopen : Type 0
WordedCheckpointsReopen =
    (image : Image) (slot : Slot) (h : Header) (s s' : State) (ts : List Transaction) (end : ℕ) (stop : LogStop)
    → store_of image ≡ Counts slot h (records_since s ts) end → IsCheckpointOf h s → StaysInBounds s
    → MadeByWords s ts s' → IsUnopened image stop → (stop ≡ StoreFault) ⊎ (stop ≡ NoMemory)
