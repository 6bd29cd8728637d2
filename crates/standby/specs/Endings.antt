-- Why a store isn't shipped or a stream not followed: a fault of the sink, the source or the disk only where its count
-- rose.
use Rattle.std.specs.Prelude.{◌≡◌, ◌<◌, ℕ}
use Rattle.flow_io.specs.Causes.{Rose}
use Rattle.flow_session.specs.Stopping.{IsOpenCause}
use Rattle.standby.specs.declared.stops.ShipStop.{ShipStop}
use Rattle.standby.specs.declared.stops.ShipStop.TheVariants as ship
use Rattle.standby.specs.declared.stops.FollowStop.{FollowStop}
use Rattle.standby.specs.declared.stops.FollowStop.TheVariants as follow

-- how shipping from a number stops: a number is refused only where it is below or above what the store has
abbrev pub ShipEnd : ℕ → ℕ → ℕ → ShipStop → Type 0
ShipEnd from before now (ship.Store stop) = now ≡ before
ShipEnd from before now (ship.Gone kept) = (from < kept) × (now ≡ before)
ShipEnd from before now (ship.Ahead number) = (number < from) × (now ≡ before)
ShipEnd from before now ship.WriteFault = Rose before now
ShipEnd from before now ship.NoMemory = now ≡ before

-- How shipping stops, by the count of the faults of its disk: it rose only where the store isn't opened because its
-- disk failed.
abbrev pub ShipDiskEnd : ℕ → ℕ → ShipStop → Type 0
ShipDiskEnd before now (ship.Store stop) = IsOpenCause before now stop
ShipDiskEnd before now (ship.Gone kept) = now ≡ before
ShipDiskEnd before now (ship.Ahead number) = now ≡ before
ShipDiskEnd before now ship.WriteFault = now ≡ before
ShipDiskEnd before now ship.NoMemory = now ≡ before

-- how putting a text stops: only by a sink that failed, or for want of memory
abbrev pub PutEnd : ℕ → ℕ → ShipStop → Type 0
PutEnd before now (ship.Store stop) = ⊥
PutEnd before now (ship.Gone kept) = ⊥
PutEnd before now (ship.Ahead number) = ⊥
PutEnd before now ship.WriteFault = Rose before now
PutEnd before now ship.NoMemory = now ≡ before

-- How following stops, by the counts of the faults of its source and of its disk: each stayed, but that of the one that
-- failed.
abbrev pub FollowEnd : ℕ → ℕ → ℕ → ℕ → FollowStop → Type 0
FollowEnd source source' disk disk' (follow.Store stop) = (source' ≡ source) × IsOpenCause disk disk' stop
FollowEnd source source' disk disk' (follow.Frame place) = (source' ≡ source) × (disk' ≡ disk)
FollowEnd source source' disk disk' (follow.Cut number) = (source' ≡ source) × (disk' ≡ disk)
FollowEnd source source' disk disk' follow.Other = (source' ≡ source) × (disk' ≡ disk)
FollowEnd source source' disk disk' (follow.Gap number) = (source' ≡ source) × (disk' ≡ disk)
FollowEnd source source' disk disk' (follow.NotAllowed number) = (source' ≡ source) × (disk' ≡ disk)
FollowEnd source source' disk disk' follow.ReadFault = Rose source source' × (disk' ≡ disk)
FollowEnd source source' disk disk' follow.TooLong = (source' ≡ source) × (disk' ≡ disk)
FollowEnd source source' disk disk' follow.NoMemory = (source' ≡ source) × (disk' ≡ disk)
