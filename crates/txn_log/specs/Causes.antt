-- Why a store wasn't read: for a fault, exactly where the disk counted one more.
use Rattle.std.specs.Prelude.{◌≡◌, ℕ, ◌≤◌, Result, Err}
use Rattle.flow_disk.specs.Causes.{Rose}
use Rattle.txn_log.specs.declared.stops.LogStop.{LogStop}
use Rattle.txn_log.specs.declared.stops.LogStop.TheVariants.{StoreFault, NoMemory}

-- the count of faults rose exactly where a fault is answered
abbrev pub IsCause : {T : Type 0} → ℕ → ℕ → Result T LogStop → Type 0
IsCause before now (Err StoreFault) = (before ≤ now) × Rose before now
IsCause before now result = now ≡ before

-- this holds, or a fault is answered
abbrev pub UnlessFault : {T : Type 0} → Result T LogStop → Type 0 → Type 0
UnlessFault (Err StoreFault) P = Unit {0}
UnlessFault result P = P

-- a cause outside of the store
abbrev pub IsOutside : LogStop → Type 0
IsOutside StoreFault = Unit {0}
IsOutside NoMemory = Unit {0}
IsOutside stop = ⊥
