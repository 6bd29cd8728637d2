-- Why a session stops: for a fault, exactly where the store counted one more.
use Rattle.std.specs.Prelude.{◌≡◌, ℕ}
use Rattle.flow_disk.specs.Causes.{Rose}
use Rattle.txn_log.specs.declared.stops.LogStop.{LogStop}
use Rattle.txn_log.specs.declared.stops.LogStop.TheVariants as log
use Rattle.flow_session.specs.declared.serving.Stop.{Stop}
use Rattle.flow_session.specs.declared.serving.Stop.TheVariants.{StoreFault, NoMemory}

-- ---- a session

-- the count of faults rose where a fault is answered, and stayed where there was no memory
abbrev pub IsStopCause : ℕ → ℕ → Stop → Type 0
IsStopCause before now StoreFault = Rose before now
IsStopCause before now NoMemory = now ≡ before

-- ---- opening a store

-- the same where a store isn't opened: for any other cause the count stayed
abbrev pub IsOpenCause : ℕ → ℕ → LogStop → Type 0
IsOpenCause before now log.StoreFault = Rose before now
IsOpenCause before now stop = now ≡ before
