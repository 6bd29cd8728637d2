-- What a crash may leave while a store moves to its other slot.
use Rattle.std.specs.Prelude.{◌≡◌, ◌⊎◌, ℕ, List}
use Rattle.flow_disk.specs.Moments.{Only}
use Rattle.flow_disk.specs.declared.disk.Slot.{Slot}
use Rattle.flow_disk.specs.Images.{Image, bytes_in, opposite}
use Rattle.txn_log.specs.declared.header.Header.{Header}
use Rattle.txn_log.specs.declared.log.Log.{Log}
use Rattle.txn_log.specs.Records.{reach}
use Rattle.txn_log.specs.Stored.{SlotState, Unmade, slot_state}
use Rattle.txn_log.specs.Stores.{Counts, store_of}

-- one slot stands for what it did, or is unmade, or stands for what it is to; the other has these bytes
pub record Turns (slot : Slot) (before after : SlotState) (there : List ℕ) (image : Image) : Type 0 where
  pub here : (slot_state (bytes_in image slot) ≡ before)
      ⊎ ((slot_state (bytes_in image slot) ≡ Unmade) ⊎ (slot_state (bytes_in image slot) ≡ after))
  pub other : bytes_in image (opposite slot) ≡ there

-- this slot counts, with this header and the kept records alone
abbrev pub IsCompacted : Slot → Header → List (List ℕ) → Image → Type 0
IsCompacted slot header kept image = store_of image ≡ Counts slot header kept (reach 42 kept)

-- an image stands for what the old one does, or for the kept records under the new header
abbrev pub MayBeCompacted : Slot → Header → List (List ℕ) → Image → Image → Type 0
MayBeCompacted slot header kept old image = (store_of image ≡ store_of old) ⊎ IsCompacted slot header kept image

-- the log is as it was, what a read gives stands for what it did, and a crash leaves that alone
pub record StaysPut {D : Type 0} (seen : D → Image) (images : D → Image → Type 0) (log log' : Log)
    (old new : D) : Type 0 where
  pub logged : log' ≡ log
  pub same : store_of (seen new) ≡ store_of (seen old)
  pub only : Only (seen new) (images new)
