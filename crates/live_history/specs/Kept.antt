-- How a history keeps its transactions: as records in one buffer, or whole.
use Rattle.std.specs.Prelude.{◌≡◌, ℕ, ◌+◌, ◌≤◌, true, Option, Some, None, List, map, take, drop, length}
use Rattle.std.specs.List.{All}
use Rattle.std.specs.Option.{is_some}
use Rattle.flow_model.specs.declared.transactions.Numbered.{Numbered}
use Rattle.flow_model.specs.declared.transactions.Transaction.{Transaction}
use Rattle.flow_txn.specs.Reading.{whole}
use Rattle.flow_txn.specs.Records.{record_bytes}
use Rattle.live_history.specs.Rows.{HistoryRow}
use Rattle.live_history.specs.declared.kept_rows.Row.{Row}
use Rattle.live_history.specs.declared.kept_rows.Row.TheVariants.{Gone, Record, Whole}

-- the record of a transaction with its number
abbrev pub record_of : Numbered → List ℕ
record_of n = record_bytes n.number n.transaction

-- the records of transactions, one after the other
abbrev pub records_of : List Numbered → List (List ℕ)
records_of live = map record_of live

-- the bytes from a place of the buffer on, this number of them
abbrev pub bytes_at : List ℕ → ℕ → ℕ → List ℕ
bytes_at records start size = take size (drop start records)

-- a transaction that was read, with its number
abbrev pub row_read : Option (ℕ × Transaction) → HistoryRow
row_read None = None
row_read (Some x) = Some (record { number = x.0; transaction = x.1 })

-- the transaction whose record these bytes are, if they are one
abbrev pub read_from : List ℕ → HistoryRow
read_from bytes = row_read (whole bytes)

-- what a row shows over this buffer
abbrev pub row_over : List ℕ → Row → HistoryRow
row_over records Gone = None
row_over records (Record start size) = read_from (bytes_at records start size)
row_over records (Whole n) = Some n

-- what each row shows
abbrev pub shown_rows : List ℕ → List Row → List HistoryRow
shown_rows records rows = map (row_over records) rows

-- the record of a row lies within the buffer, and is one
abbrev pub IsKept : List ℕ → Row → Type 0
IsKept records Gone = Unit {0}
IsKept records (Record start size) = (start + size ≤ length records)
    × (is_some (read_from (bytes_at records start size)) ≡ true)
IsKept records (Whole n) = Unit {0}

-- so does the record of each row
abbrev pub AreKept : List ℕ → List Row → Type 0
AreKept records rows = All (IsKept records) rows

-- a buffer has the bytes of another one, and maybe more behind them
abbrev pub Extends : List ℕ → List ℕ → Type 0
Extends old new = take (length old) new ≡ old
