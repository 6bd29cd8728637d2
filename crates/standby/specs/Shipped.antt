-- What shipping a store from a number puts, and why it stops.
use Rattle.std.specs.Prelude.{◌≡◌, ℕ, ◌-◌, ◌<◌, ◌≤◌, List, length, drop, Option, Result, Ok, Err}
use Rattle.std.specs.Io.KnownBytes.{Appends, Keeps}
use Rattle.flow_disk.specs.Images.{Image}
use Rattle.txn_log.specs.declared.opening.Opened.{Opened}
use Rattle.txn_log.specs.Opening.{IsOpened}
use Rattle.flow_core.specs.Summaries.{Summary}
use Rattle.flow_session.specs.Keeping.{ComesTo}
use Rattle.txn_log.specs.declared.stops.LogStop.{LogStop}
use Rattle.standby.specs.declared.stops.ShipStop.{ShipStop}
use Rattle.standby.specs.declared.stops.ShipStop.TheVariants.{Store, Gone, Ahead, WriteFault, NoMemory}
use Rattle.standby.specs.Streams.{stream_bytes, PutsPart}

-- the last `count` of a list; all of it where there are fewer
abbrev pub last : {T : Type 0} → ℕ → List T → List T
last count xs = drop (length xs - count) xs

-- the stream that ships an opened store with this number of transactions above a number: the queues and the limit of
-- the store, the number, and the last records
abbrev pub shipped : Opened → ℕ → ℕ → List ℕ
shipped opened number from =
    stream_bytes (record { queues = opened.header.queues; limit = opened.header.limit; from = from })
    (last (number - from) opened.records)

-- all transactions above a number are records of the opened store, which has this number of transactions
abbrev pub HasFrom : Opened → ℕ → ℕ → Type 0
HasFrom opened number from = (opened.header.transactions ≤ from) × (from ≤ number)

-- an opened store with this number of transactions is shipped above a number: its stream is put, or where that stops, a
-- front part of it; nothing where the number is refused
abbrev pub Ships : Opened → ℕ → ℕ → Option (List ℕ) → Option (List ℕ) → Result ℕ ShipStop → Type 0
Ships opened number from old new (Ok count) =
    HasFrom opened number from × (count ≡ number - from) × Appends old new (shipped opened number from)
Ships opened number from old new (Err (Store stop)) = ⊥
Ships opened number from old new (Err (Gone kept)) = (from < kept) × (kept ≡ opened.header.transactions) × Keeps old new
Ships opened number from old new (Err (Ahead last_one)) =
    (opened.header.transactions ≤ from) × (last_one < from) × (last_one ≡ number) × Keeps old new
Ships opened number from old new (Err WriteFault) =
    HasFrom opened number from × PutsPart old new (shipped opened number from)
Ships opened number from old new (Err NoMemory) =
    HasFrom opened number from × PutsPart old new (shipped opened number from)

-- a store isn't opened, for a cause of which this is so
abbrev pub IsUnopened : (LogStop → Type 0) → ShipStop → Type 0
IsUnopened so (Store stop) = so stop
IsUnopened so (Gone kept) = ⊥
IsUnopened so (Ahead number) = ⊥
IsUnopened so WriteFault = ⊥
IsUnopened so NoMemory = Unit {0}

-- why a store isn't opened, as the end of shipping
abbrev pub IsEndBy : LogStop → ShipStop → Type 0
IsEndBy stop (Store other) = other ≡ stop
IsEndBy stop (Gone kept) = ⊥
IsEndBy stop (Ahead number) = ⊥
IsEndBy stop WriteFault = ⊥
IsEndBy stop NoMemory = Unit {0}

-- an image holds an opened store, and its records give a history with this number of transactions
pub record IsStoreOf (image : Image) (opened : Opened) (number : ℕ) : Type 0 where
  pub held : IsOpened image opened
  pub state : Summary
  pub comes_to : ComesTo opened state
  pub count : state.transactions ≡ number

-- a store is opened, and shipped from a number
pub record ShipsOpened (tells : Type 0) (image : Image) (from : ℕ) (old new : Option (List ℕ))
    (result : Result ℕ ShipStop) : Type 0 where
  pub opened : Opened
  pub number : ℕ
  pub store : tells → IsStoreOf image opened number
  pub ships : Ships opened number from old new result
