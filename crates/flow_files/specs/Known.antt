-- What is known of a disk of two files: its faults, what it may do, and which file needs no sync.
use Rattle.std.specs.Prelude.{◌≡◌, ℕ, Bool, true, false, Result, IsErr, OnErr, OnOk}
use Rattle.flow_disk.specs.Causes.{HasCause}
use Rattle.flow_disk.specs.declared.disk.Slot.{Slot}
use Rattle.flow_disk.specs.declared.disk.Slot.TheVariants.{A, B}
use Rattle.flow_files.specs.declared.access.Access.{Access}

-- how often it has failed and whether it has, what it may do, and whether nothing was written to each file since its
-- last successful sync
pub record Known : Type 0 where
  pub faults : ℕ
  pub failed : Bool
  pub access : Access
  pub a_synced : Bool
  pub b_synced : Bool

abbrev pub is_synced : Known → Slot → Bool
is_synced known A = known.a_synced
is_synced known B = known.b_synced

-- a write was tried
abbrev pub unsynced : Known → Slot → Known
unsynced known A = record known { a_synced = false }
unsynced known B = record known { b_synced = false }

-- a disk that has failed fails at each later call; the access stays
pub record Goes {T E : Type 0} (before now : Known) (result : Result T E) : Type 0 where
  pub cause : HasCause before.faults now.faults result
  pub stays : before.failed ≡ true → IsErr result
  pub err : OnErr result (now.failed ≡ true)
  pub ok : OnOk result (now.failed ≡ false)
  pub access : now.access ≡ before.access

-- no file's need of a sync has changed
pub record SameSyncs (before now : Known) : Type 0 where
  pub a : now.a_synced ≡ before.a_synced
  pub b : now.b_synced ≡ before.b_synced
