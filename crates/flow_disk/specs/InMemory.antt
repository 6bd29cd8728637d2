-- What a disk in memory tells.
use Rattle.std.specs.Prelude.{◌≡◌, ℕ, List, Option, length}
use Rattle.flow_disk.specs.declared.memory.MemDisk.{MemDisk}
use Rattle.flow_disk.specs.Calls.{Tally, untouched}
use Rattle.flow_disk.specs.Contents.{image_of}
use Rattle.flow_disk.specs.Crashes.{crashed}
use Rattle.flow_disk.specs.Images.{Image}
use Rattle.flow_disk.specs.Moments.{Only}
use Rattle.flow_disk.specs.Replay.{read_after, last_synced, MayLeave, LeftSince}

-- what a read gives
abbrev pub seen_by : MemDisk → Image
seen_by disk = read_after (image_of disk.kept.first) disk.kept.changes.items

-- what the slots held at the last sync
abbrev pub synced_by : MemDisk → Image
synced_by disk = last_synced (image_of disk.kept.first) (image_of disk.kept.first) disk.kept.changes.items

-- a crash may leave this
abbrev pub LeftBy : MemDisk → Image → Type 0
LeftBy disk c = MayLeave (image_of disk.kept.first) disk.kept.changes.items c

-- the moment is the number of calls that changed something
abbrev pub moment_of : MemDisk → ℕ
moment_of disk = length disk.kept.changes.items

-- a crash at some moment from t on might have left this
abbrev pub LeftSinceBy : MemDisk → ℕ → Image → Type 0
LeftSinceBy disk t c = LeftSince (image_of disk.kept.first) disk.kept.changes.items t c

-- what a crash leaves by a choice
abbrev pub crashed_by : ℕ → MemDisk → Image
crashed_by choice disk = crashed choice (image_of disk.kept.first) (image_of disk.kept.first) disk.kept.changes.items

abbrev pub calls_of : MemDisk → Tally
calls_of disk = disk.counts

-- neither what a read gives nor what a crash may leave has changed
pub record Keeps (old new : MemDisk) : Type 0 where
  pub first : image_of new.kept.first ≡ image_of old.kept.first
  pub changes : new.kept.changes.items ≡ old.kept.changes.items

-- a disk of which no call was made, with these contents on it, both synced
pub record IsFresh (image : Image) (failing : List ℕ) (stop : Option ℕ) (disk : MemDisk) : Type 0 where
  pub seen : seen_by disk ≡ image
  pub synced : Only image (LeftBy disk)
  pub calls : calls_of disk ≡ untouched failing stop
