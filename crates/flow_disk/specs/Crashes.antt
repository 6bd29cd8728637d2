-- One image that a crash leaves, by a choice.
use Rattle.std.specs.Prelude.{ℕ, ◌+◌, ◌%◌, ◌==◌, if◌then◌else◌, List, [], ◌∷◌, length, map}
use Rattle.std.specs.List.{range_with_len}
use Rattle.flow_disk.specs.declared.disk.Slot.{Slot}
use Rattle.flow_disk.specs.declared.change.Change.{Change}
use Rattle.flow_disk.specs.declared.change.Change.TheVariants.{Wrote, Synced}
use Rattle.flow_disk.specs.Images.{Image, with_written}

-- the byte at the place at + i: the choice plus the place, modulo 256
abbrev pub noise_byte : ℕ → ℕ → ℕ → ℕ
noise_byte choice at i = (choice + (at + i)) % 256

-- so many bytes that tell their places
abbrev pub noise_of : ℕ → ℕ → ℕ → List ℕ
noise_of choice at n = map (noise_byte choice at) (range_with_len 0 n)

-- what a choice makes of a write that isn't synced
abbrev pub torn_by : ℕ → Image → Slot → ℕ → List ℕ → Image
torn_by choice left slot at bytes =
    if choice == 0 then left
    else if choice == 1 then with_written left slot at bytes
    else with_written left slot at (noise_of choice at (length bytes))

-- what it leaves after these changes
abbrev pub crashed : ℕ → Image → Image → List Change → Image
crashed choice seen left [] = left
crashed choice seen left (Wrote slot at bytes ∷ changes) =
    crashed choice (with_written seen slot at bytes.items) (torn_by choice left slot at bytes.items) changes
crashed choice seen left (Synced ∷ changes) = crashed choice seen seen changes
