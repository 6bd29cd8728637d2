-- Why a store isn't moved: for a fault, exactly where the disk counted one more.
use Rattle.std.specs.Prelude.{◌≡◌, ℕ, ◌≤◌, Result, Ok, Err}
use Rattle.flow_disk.specs.Causes.{Rose}
use Rattle.checkpoint.specs.declared.stops.MoveStop.{MoveStop}
use Rattle.checkpoint.specs.declared.stops.MoveStop.TheVariants.{StoreFault, NoMemory}

-- the count of faults rose exactly where a fault is answered
abbrev pub IsMoveCause : {T : Type 0} → ℕ → ℕ → Result T MoveStop → Type 0
IsMoveCause before now (Ok x) = now ≡ before
IsMoveCause before now (Err StoreFault) = (before ≤ now) × Rose before now
IsMoveCause before now (Err NoMemory) = now ≡ before

-- this holds where there was no memory
abbrev pub IfNoMemory : {T : Type 0} → Result T MoveStop → Type 0 → Type 0
IfNoMemory (Ok x) P = Unit {0}
IfNoMemory (Err StoreFault) P = Unit {0}
IfNoMemory (Err NoMemory) P = P
