-- What a CHECKPOINT leaves: the log on its other slot, which holds the live transactions alone.
use Rattle.std.specs.Prelude.{◌≡◌, ℕ, ◌+◌}
use Rattle.flow_disk.specs.declared.disk.Slot.{Slot}
use Rattle.flow_disk.specs.Images.{Image, opposite}
use Rattle.flow_disk.specs.Moments.{Only}
use Rattle.txn_log.specs.declared.header.Header.{Header}
use Rattle.txn_log.specs.declared.log.Log.{Log}
use Rattle.checkpoint.specs.Compacting.{IsCompacted}
use Rattle.flow_core.specs.Summaries.{Summary}
use Rattle.flow_session.specs.Histories.{IsHeaderOf, payloads}

-- this slot counts: its header has that generation and the counts of the summary, and its records are exactly the live
-- transactions
pub record HoldsLive (slot : Slot) (generation : ℕ) (s : Summary) (image : Image) : Type 0 where
  pub header : Header
  pub generation_is : header.generation ≡ generation
  pub says : IsHeaderOf header s
  pub records : IsCompacted slot header (payloads s.live) image

-- The log stands on the slot that was the other one, and its generation is one more. Where the disk tells its bytes,
-- that slot counts and holds the live transactions alone; a crash now leaves exactly the image that is read.
pub record IsCheckpointed {D : Type 0} (tells : Type 0) (seen : D → Image) (images : D → Image → Type 0)
    (old new : Log) (disk : D) (s : Summary) : Type 0 where
  pub slot : new.slot ≡ opposite old.slot
  pub generation : new.generation ≡ old.generation + 1
  pub holds : tells → HoldsLive (opposite old.slot) (old.generation + 1) s (seen disk)
  pub durable : Only (seen disk) (images disk)
