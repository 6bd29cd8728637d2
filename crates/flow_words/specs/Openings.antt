-- Why a store isn't opened or made, and what is printed then.
use Rattle.std.specs.Prelude.{◌≡◌, ◌⊎◌, ℕ, Option, None, Some, List, [], ◌∷◌, ◌++◌, codes, decimal}
use Rattle.std.specs.Io.KnownBytes.{Keeps}
use Rattle.flow_disk.specs.declared.disk.Slot.{Slot}
use Rattle.flow_disk.specs.declared.disk.Slot.TheVariants.{A, B}
use Rattle.txn_log.specs.declared.stops.LogStop.{LogStop}
use Rattle.txn_log.specs.declared.stops.LogStop.TheVariants as stop
use Rattle.flow_session.specs.Refusing.{IsUnopened}
use Rattle.flow_words.specs.Outside.{Files}
use Rattle.flow_words.specs.Printed.{Prints}
use Rattle.flow_words.specs.declared.status.Status.{Status}
use Rattle.flow_words.specs.declared.status.Status.TheVariants.{Store, StoreFault, NoMemory}

-- the letter of a slot
abbrev pub slot_letter : Slot → List ℕ
slot_letter A = codes "A"
slot_letter B = codes "B"

-- a refusal by the store itself; there is none for a fault or for want of memory
abbrev pub store_text : LogStop → Option (List ℕ)
store_text stop.Unmade = Some (codes "no STORE UNMADE\n")
store_text stop.Made = Some (codes "no STORE MADE\n")
store_text (stop.Foreign slot) = Some (codes "no STORE FOREIGN " ++ slot_letter slot ++ 10 ∷ [])
store_text (stop.Damaged slot place) = Some (codes "no STORE DAMAGED " ++ slot_letter slot ++ 32 ∷ [] ++ decimal place
    ++ 10 ∷ [])
store_text stop.StoreFault = None
store_text stop.NoMemory = None

-- how a word ends without a refusal
abbrev pub fault_of : LogStop → Status
fault_of stop.Unmade = NoMemory
fault_of stop.Made = NoMemory
fault_of (stop.Foreign slot) = NoMemory
fault_of (stop.Damaged slot place) = NoMemory
fault_of stop.StoreFault = StoreFault
fault_of stop.NoMemory = NoMemory

-- the text of a refusal is printed, and the word ends as Store; where there is no text nothing is printed, and it ends
-- by the fault
abbrev pub PrintsRefusal : Option (List ℕ) → Status → Option (List ℕ) → Option (List ℕ) → Status → Type 0
PrintsRefusal None fault held held' ended = (ended ≡ fault) × Keeps held held'
PrintsRefusal (Some text) fault held held' ended = Prints text Store held held' ended

-- a store that isn't opened or made for this cause is refused, or there is no memory for the text
abbrev pub RefusesStore : LogStop → Option (List ℕ) → Option (List ℕ) → Status → Type 0
RefusesStore stop held held' ended = ((ended ≡ NoMemory) × Keeps held held')
    ⊎ PrintsRefusal (store_text stop) (fault_of stop) held held' ended

-- A word over a store ends without having looked into it: the store is refused for a cause that the disk tells, or
-- there is no memory.
abbrev pub IsUnserved : {D : Type 0} → Files D → Option (List ℕ) → Option (List ℕ) → Status → Type 0
IsUnserved f held held' ended = (stop : LogStop) × (f.disk.tells → IsUnopened (f.disk.seen f.old) stop)
    × RefusesStore stop held held' ended
