-- What is answered when a store is opened or made.
use Rattle.std.specs.Prelude.{◌≡◌, ◌⊎◌, ℕ, [], length, false, Option, Some, None, Result, Ok, Err}
use Rattle.flow_disk.specs.declared.disk.Slot.{Slot}
use Rattle.flow_disk.specs.declared.disk.Slot.TheVariants.{A}
use Rattle.flow_disk.specs.Images.{Image}
use Rattle.txn_log.specs.declared.chosen.Chosen.{Chosen}
use Rattle.txn_log.specs.declared.header.Header.{Header}
use Rattle.txn_log.specs.declared.opening.Opened.{Opened}
use Rattle.txn_log.specs.declared.stops.LogStop.{LogStop}
use Rattle.txn_log.specs.declared.stops.LogStop.TheVariants.{Unmade, Made, Foreign, Damaged, StoreFault, NoMemory}
use Rattle.txn_log.specs.Stores.{StoreState, NoStore, ForeignIn, DamagedIn, Counts, store_of}

-- why a store isn't opened, by its slots alone
abbrev pub IsVerdict : LogStop → StoreState → Type 0
IsVerdict Unmade state = state ≡ NoStore
IsVerdict Made state = ⊥
IsVerdict (Foreign slot) state = state ≡ ForeignIn slot
IsVerdict (Damaged slot place) state = state ≡ DamagedIn slot place
IsVerdict StoreFault state = ⊥
IsVerdict NoMemory state = ⊥

-- the slot that counts
abbrev pub slot_in : StoreState → Option Slot
slot_in NoStore = None
slot_in (ForeignIn slot) = None
slot_in (DamagedIn slot place) = None
slot_in (Counts slot h ps e) = Some slot

-- what both slots give: the one that counts, or the verdict
abbrev pub IsChoice : Result Slot LogStop → StoreState → Type 0
IsChoice (Ok slot) state = slot_in state ≡ Some slot
IsChoice (Err stop) state = IsVerdict stop state

-- the slot that counts, with the header and the payloads of its body
abbrev pub IsChosen : Chosen → StoreState → Type 0
IsChosen chosen state =
    state ≡ Counts chosen.slot chosen.body.header chosen.body.records chosen.body.end

-- why opening stopped: the verdict, or a cause outside of the store
abbrev pub IsRefusal : LogStop → StoreState → Type 0
IsRefusal StoreFault state = Unit {0}
IsRefusal NoMemory state = Unit {0}
IsRefusal stop state = IsVerdict stop state

-- some slot counts
abbrev pub HasStore : StoreState → Type 0
HasStore NoStore = ⊥
HasStore (ForeignIn slot) = ⊥
HasStore (DamagedIn slot place) = ⊥
HasStore (Counts slot h ps e) = Unit {0}

-- how the store stands before one is made
abbrev pub IsStanding : LogStop → StoreState → Type 0
IsStanding Made state = HasStore state
IsStanding stop state = IsRefusal stop state

-- why none was made: not because there was none
abbrev pub IsMakeRefusal : LogStop → StoreState → Type 0
IsMakeRefusal Unmade state = ⊥
IsMakeRefusal stop state = IsStanding stop state

-- the header of a new store
abbrev pub first_header : ℕ → ℕ → Header
first_header queues limit = record { generation = 1; queues = queues; limit = limit; transactions = 0; roots = 0 }

-- no store, or the new one
abbrev pub MayBeNew : ℕ → ℕ → Image → Type 0
MayBeNew queues limit image = (store_of image ≡ NoStore) ⊎ (store_of image ≡ Counts A (first_header queues limit) [] 42)

-- what stood there, or where no store stood there none, or the new one
abbrev pub MayBeMade : ℕ → ℕ → Image → Image → Type 0
MayBeMade queues limit old image = (image ≡ old) ⊎ ((store_of old ≡ NoStore) × MayBeNew queues limit image)

-- the slot that counts is the log's, with the header and the payloads that are handed out
abbrev pub IsOpened : Image → Opened → Type 0
IsOpened image opened =
    store_of image ≡ Counts opened.log.slot opened.header opened.records opened.log.end

-- the log has the generation of the header and the number of the records
pub record HasRecords (opened : Opened) : Type 0 where
  pub generation : opened.log.generation ≡ opened.header.generation
  pub count : opened.log.records ≡ length opened.records
  pub alive : opened.log.failed ≡ false
