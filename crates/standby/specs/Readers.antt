-- A reader in blocks, as its callers see it.
use Rattle.std.specs.Prelude.{◌≡◌, ℕ, ◌+◌, ◌-◌, ◌<◌, ◌≤◌, List, length, Option, Some, None}
use Rattle.std.specs.Io.KnownBytes.{Consumes, prepend_known}

-- the bytes that were taken and not handed out, and how many were handed out
pub record Reader : Type 0 where
  pub held : List ℕ
  pub place : ℕ

-- the greatest number of bytes in a block
abbrev pub most_held : ℕ
most_held = 65536

-- a reader holds at most one block
abbrev pub HoldsBlock : Reader → Type 0
HoldsBlock reader = length reader.held ≤ most_held

-- a reader has handed out some of the bytes that it held, and took no others
pub record HandsOut (old new : Reader) : Type 0 where
  pub on : old.place ≤ new.place
  pub same : new.place + length new.held ≡ old.place + length old.held

-- what is still to be read, where the source tells what it has left: the bytes that are held, and those behind them
abbrev pub ahead : Reader → Option (List ℕ) → Option (List ℕ)
ahead reader left = prepend_known reader.held left

-- there is a byte more, where the bytes are known
abbrev pub GoesOn : Option (List ℕ) → Type 0
GoesOn None = Unit {0}
GoesOn (Some bytes) = 0 < length bytes

-- these bytes are read behind a place: they are the next ones, and lie within the greatest length of a stream
pub record Gives (place : ℕ) (before after : Option (List ℕ)) (bytes : List ℕ) : Type 0 where
  pub taken : Consumes before after bytes
  pub within : length bytes ≤ 268435456 - place

-- the places in a block of this size, and the number of bytes handed out, within the greatest length of a stream
pub record IsLaidOut (block from to place : ℕ) : Type 0 where
  pub from_in : from ≤ to
  pub to_in : to ≤ block
  pub block_in : 0 < block
  pub block_most : block ≤ most_held
  pub place_in : place ≤ 268435456
