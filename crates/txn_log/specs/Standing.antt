-- What a log and its disk have in common, and what an append changes of it.
use Rattle.std.specs.Prelude.{◌≡◌, ◌⊎◌, ℕ, false, List, [], ◌∷◌, length}
use Rattle.flow_disk.specs.declared.disk.Slot.{Slot}
use Rattle.flow_disk.specs.Images.{Image, opposite}
use Rattle.txn_log.specs.declared.header.Header.{Header}
use Rattle.txn_log.specs.declared.log.Log.{Log}
use Rattle.txn_log.specs.Stores.{Counts, store_of, with_records}

-- a log on this slot, with this generation, this number of records and its closed gate there, which hasn't failed
pub record IsAt (slot : Slot) (generation records end : ℕ) (log : Log) : Type 0 where
  pub slot_is : log.slot ≡ slot
  pub generation_is : log.generation ≡ generation
  pub records_is : log.records ≡ records
  pub end_is : log.end ≡ end
  pub alive : log.failed ≡ false

-- the slot that counts is the log's, with the log's generation, its number of records and its closed gate
pub record StandsOn (log : Log) (image : Image) : Type 0 where
  pub header : Header
  pub payloads : List (List ℕ)
  pub counts : store_of image ≡ Counts log.slot header payloads log.end
  pub generation : header.generation ≡ log.generation
  pub count : length payloads ≡ log.records

-- an image stands for what the old one does with these records more
abbrev pub HasRecords : List (List ℕ) → Image → Image → Type 0
HasRecords payloads old image = store_of image ≡ with_records payloads (store_of old)

-- an image stands for what the old one does, with all of these records more or with none
abbrev pub MayHaveRecords : List (List ℕ) → Image → Image → Type 0
MayHaveRecords payloads old image = (store_of image ≡ store_of old) ⊎ HasRecords payloads old image

-- with one record more
abbrev pub HasRecord : List ℕ → Image → Image → Type 0
HasRecord payload old image = HasRecords (payload ∷ []) old image

-- with one record more or without
abbrev pub MayHaveRecord : List ℕ → Image → Image → Type 0
MayHaveRecord payload old image = MayHaveRecords (payload ∷ []) old image

-- the other slot counts, with this header, this number of records and its closed gate there
pub record HasTakenOver (log : Log) (header : Header) (records end : ℕ) (image : Image) : Type 0 where
  pub payloads : List (List ℕ)
  pub counts : store_of image ≡ Counts (opposite log.slot) header payloads end
  pub count : length payloads ≡ records
