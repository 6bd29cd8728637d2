-- What two slots hold, and what a crash may make of it between two syncs.
use Rattle.std.specs.Prelude.{◌<◌, ◌≡◌, ℕ, ◌+◌, ◌≤◌, max, min, List, ◌++◌, length, take, drop}
use Rattle.flow_disk.specs.declared.disk.Slot.{Slot}
use Rattle.flow_disk.specs.declared.disk.Slot.TheVariants.{A, B}

-- the bytes of both slots
pub record Image : Type 0 where
  pub a : List ℕ
  pub b : List ℕ

-- the bytes of one slot
abbrev pub bytes_in : Image → Slot → List ℕ
bytes_in image A = image.a
bytes_in image B = image.b

-- one slot has these bytes, the other is as it was
abbrev pub put_in : Image → Slot → List ℕ → Image
put_in image A bytes = record { a = bytes; b = image.b }
put_in image B bytes = record { a = image.a; b = bytes }

-- the other slot
abbrev pub opposite : Slot → Slot
opposite A = B
opposite B = A

-- a list of bytes with these at this place, where the list ends at or behind it
abbrev pub spliced : List ℕ → ℕ → List ℕ → List ℕ
spliced old at bytes = take at old ++ bytes ++ drop (at + length bytes) old

-- the slots after a write
abbrev pub with_written : Image → Slot → ℕ → List ℕ → Image
with_written image slot at bytes = put_in image slot (spliced (bytes_in image slot) at bytes)

-- after a write of n bytes that a crash cuts short: any bytes in the range and behind the old end, an end between, the
-- same elsewhere
pub record Torn (at n : ℕ) (old new : List ℕ) : Type 0 where
  pub before : take (min at (length old)) new ≡ take (min at (length old)) old
  pub after : drop (at + n) new ≡ drop (at + n) old
  pub no_shorter : length old ≤ length new
  pub no_longer : length new ≤ max (length old) (at + n)

-- one slot is torn, the other as it was
pub record TornIn (slot : Slot) (at n : ℕ) (old new : Image) : Type 0 where
  pub here : Torn at n (bytes_in old slot) (bytes_in new slot)
  pub there : bytes_in new (opposite slot) ≡ bytes_in old (opposite slot)

-- a read of some bytes from a place: a part of what stands there, at least one byte where there is one
pub record Reads (bytes : List ℕ) (at n : ℕ) (buf : List ℕ) : Type 0 where
  pub part : take n buf ≡ take n (drop at bytes)
  pub within : n ≤ length (drop at bytes)
  pub some : at < length bytes → 0 < length buf → 0 < n
