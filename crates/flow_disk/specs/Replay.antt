-- The images of a disk in memory, from the record of its calls.
use Rattle.std.specs.Prelude.{◌≡◌, ℕ, ◌≤◌, List, [], ◌∷◌, length, take}
use Rattle.flow_disk.specs.declared.change.Change.{Change}
use Rattle.flow_disk.specs.declared.change.Change.TheVariants.{Wrote, Synced}
use Rattle.flow_disk.specs.Images.{Image, with_written, TornIn}

-- what a read gives after these changes
abbrev pub read_after : Image → List Change → Image
read_after seen [] = seen
read_after seen (Wrote slot at bytes ∷ changes) = read_after (with_written seen slot at bytes.items) changes
read_after seen (Synced ∷ changes) = read_after seen changes

-- what a crash may leave after these changes
abbrev pub LeftAfter : Image → (Image → Type 0) → List Change → Image → Type 0
LeftAfter seen images [] c = images c
LeftAfter seen images (Wrote slot at bytes ∷ changes) c =
    LeftAfter (with_written seen slot at bytes.items)
    (λ e. (d : Image) × images d × TornIn slot at (length bytes.items) d e) changes c
LeftAfter seen images (Synced ∷ changes) c = LeftAfter seen (λ e. e ≡ seen) changes c

-- of a disk that begins with an image on it
abbrev pub MayLeave : Image → List Change → Image → Type 0
MayLeave first changes c = LeftAfter first (λ e. e ≡ first) changes c

-- what it may have left after the first t changes or later
abbrev pub LeftSince : Image → List Change → ℕ → Image → Type 0
LeftSince first changes t c = (k : ℕ) × (t ≤ k) × (k ≤ length changes) × MayLeave first (take k changes) c

-- what the slots held at the last sync, or at first
abbrev pub last_synced : Image → Image → List Change → Image
last_synced seen synced [] = synced
last_synced seen synced (Wrote slot at bytes ∷ changes) = last_synced
    (with_written seen slot at bytes.items) synced changes
last_synced seen synced (Synced ∷ changes) = last_synced seen seen changes
