-- What a reader in blocks reads of the bytes ahead of it, and why it stops.
use Rattle.std.specs.Prelude.{◌≡◌, ℕ, ◌+◌, ◌<◌, ◌≤◌, Bool, true, false, List, ◌++◌, length, Option, Result, Ok, Err}
use Rattle.std.specs.Io.KnownBytes.{IsAtEnd, Keeps}
use Rattle.standby.specs.Readers.{GoesOn, Gives}
use Rattle.standby.specs.declared.stops.FollowStop.{FollowStop}
use Rattle.standby.specs.declared.stops.FollowStop.TheVariants as follow

-- whether there is a byte more is told, and none is handed out
abbrev pub Looks : Option (List ℕ) → Option (List ℕ) → Result Bool FollowStop → Type 0
Looks before after (Ok true) = Keeps before after × GoesOn after
Looks before after (Ok false) = Keeps before after × IsAtEnd after
Looks before after (Err follow.ReadFault) = Keeps before after
Looks before after (Err stop) = ⊥

-- some bytes more are put behind the old ones
pub record Grows (place : ℕ) (before after : Option (List ℕ)) (old new : List ℕ) (count : ℕ) : Type 0 where
  pub bytes : List ℕ
  pub given : Gives place before after bytes
  pub count_is : length bytes ≡ count
  pub put : new ≡ old ++ bytes

-- at most `most` bytes more are read, none only at the end; a byte behind the greatest length of a stream is too long
abbrev pub ReadsSome : ℕ → ℕ → Option (List ℕ) → Option (List ℕ) → List ℕ → List ℕ → Result ℕ FollowStop → Type 0
ReadsSome most place before after old new (Ok count) =
    Grows place before after old new count × (count ≤ most) × (count ≡ 0 → IsAtEnd after)
ReadsSome most place before after old new (Err follow.TooLong) =
    Keeps before after × (new ≡ old) × (place ≡ 268435456) × GoesOn after
ReadsSome most place before after old new (Err follow.ReadFault) = Keeps before after × (new ≡ old)
ReadsSome most place before after old new (Err follow.NoMemory) = Keeps before after × (new ≡ old)
ReadsSome most place before after old new (Err stop) = ⊥

-- So many bytes are read: all of them, or fewer where there are no more. `TooLong` comes where one is asked for and is
-- there behind all that a stream may have.
abbrev pub Reads : ℕ → ℕ → Option (List ℕ) → Option (List ℕ) → List ℕ → Result Bool FollowStop → Type 0
Reads count place before after out (Ok true) = Gives place before after out × (length out ≡ count)
Reads count place before after out (Ok false) = Gives place before after out × (length out < count) × IsAtEnd after
Reads count place before after out (Err follow.TooLong) =
    Gives place before after out × (length out < count) × (place + length out ≡ 268435456) × GoesOn after
Reads count place before after out (Err follow.ReadFault) = Gives place before after out × (length out < count)
Reads count place before after out (Err follow.NoMemory) = Gives place before after out × (length out < count)
Reads count place before after out (Err stop) = ⊥
