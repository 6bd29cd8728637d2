-- What one call of `next` tells of the bytes that stand before it.
use Rattle.std.specs.Prelude.{◌≡◌, ℕ, ◌+◌, ◌-◌, ◌<◌, ◌≤◌, ◌⊎◌, List, [], ◌∷◌, ◌++◌, length, min, Bool, true, ◌||◌, ◌&&◌}
use Rattle.std.specs.Prelude.{not, nat_lt, ◌==◌, if◌then◌else◌, Result, Ok, Err, Option}
use Rattle.std.specs.Io.KnownBytes.{IsAtEnd}
use Rattle.flow_io.specs.Causes.{Rose}
use Rattle.flow_io.specs.Inputs.{NoFeedBelow}
use Rattle.flow_io.specs.Reading.{Reading}
use Rattle.flow_io.specs.declared.lines.Line.{Line}
use Rattle.flow_io.specs.declared.lines.Line.TheVariants.{Text, TooLong, Ended}
use Rattle.flow_io.specs.declared.lines.IoStop.{IoStop}
use Rattle.flow_io.specs.declared.lines.IoStop.TheVariants.{ReadFault, ScriptTooLong, NoMemory}

-- The line at the front of these bytes is handed out: with its line feed, or whole at the end of the source.
pub record Hands (bytes : List ℕ) (room : ℕ) (left : Option (List ℕ)) (line rest : List ℕ) (room' : ℕ) : Type 0 where
  pub no_feed : NoFeedBelow (length line) line
  pub cut : (bytes ≡ line ++ 10 ∷ rest) × (room ≡ length line + 1 + room')
      ⊎ (bytes ≡ line) × (rest ≡ []) × (0 < length line) × (room ≡ length line + room') × IsAtEnd left

-- what is longer than a line was passed over, and nothing else
abbrev pub SetsAside : Bool → Reading → Reading → Bool → Type 0
SetsAside passed old new passed' =
    (65536 < length old.held) × (new ≡ record { held = []; room = old.room - length old.held; text = old.held })
    × (passed' ≡ true)
    ⊎ (length old.held ≤ 65536) × (new ≡ old) × (passed' ≡ passed)

-- a line of this length, behind a part that was passed over
abbrev pub kind_of : Bool → ℕ → Line
kind_of passed len = if passed || nat_lt 65536 len then TooLong else Text

-- what stands at the end, behind a part that was passed over
abbrev pub last_kind : Bool → ℕ → Line
last_kind passed len = if not passed && (len == 0) then Ended else kind_of passed len

-- what a call tells of the bytes before it, of which `room` count; `left` is what the source has left after it
abbrev pub Tells : List ℕ → ℕ → Option (List ℕ) → Result Line IoStop → Reading → Type 0
Tells bytes room left (Ok Text) new =
    Hands bytes room left new.text new.held new.room × (length new.text ≤ 65536)
Tells bytes room left (Ok TooLong) new =
    (line : List ℕ) × Hands bytes room left line new.held new.room × (65536 < length line)
Tells bytes room left (Ok Ended) new =
    (bytes ≡ []) × (new.held ≡ []) × (new.room ≡ room) × IsAtEnd left
Tells bytes room left (Err ScriptTooLong) new = (room < length bytes) × NoFeedBelow room bytes
Tells bytes room left (Err ReadFault) new = NoFeedBelow (min room (length bytes)) bytes
Tells bytes room left (Err NoMemory) new = Unit {0}

-- why a call stopped: the count of the source's faults rose where a read failed, and stays otherwise
abbrev pub StopCause : ℕ → ℕ → IoStop → Type 0
StopCause before now ReadFault = Rose before now
StopCause before now ScriptTooLong = now ≡ before
StopCause before now NoMemory = now ≡ before

-- a line that is handed out leaves room for fewer bytes, so that a loop over the lines ends
abbrev pub Shrinks : ℕ → ℕ → Result Line IoStop → Type 0
Shrinks room room' (Ok Text) = room' < room
Shrinks room room' (Ok TooLong) = room' < room
Shrinks room room' (Ok Ended) = room' ≡ room
Shrinks room room' (Err stop) = Unit {0}
