-- What crashes may leave, now and at the moments since a time.
use Rattle.std.specs.Prelude.{◌≡◌, ◌⊎◌, ℕ, ◌≤◌}
use Rattle.flow_disk.specs.Images.{Image}

-- each new image is an old one after a step
abbrev pub Follows : (Image → Image → Type 0) → (Image → Type 0) → (Image → Type 0) → Type 0
Follows step old new = (c : Image) → new c → (d : Image) × old d × step d c

-- no new image
abbrev pub Within : (Image → Type 0) → (Image → Type 0) → Type 0
Within old new = (c : Image) → new c → old c

-- a crash leaves this and nothing else
abbrev pub Only : Image → (Image → Type 0) → Type 0
Only image images = (c : Image) → images c → c ≡ image

-- Time goes on: a crash since t might have left what it might have left before, or what it may leave now.
pub record Elapses (before now : ℕ) (past since : ℕ → Image → Type 0) (images : Image → Type 0) : Type 0 where
  pub later : before ≤ now
  pub nothing_else : (t : ℕ) (c : Image) → t ≤ before → since t c → past t c ⊎ images c
  pub keeps : (t : ℕ) (c : Image) → t ≤ before → past t c → since t c

-- a call makes time pass
abbrev pub Passes : {D : Type 0} → (D → ℕ) → (D → ℕ → Image → Type 0) → (D → Image → Type 0) → D → D → Type 0
Passes moment left_since images old new = Elapses (moment old) (moment new) (left_since old) (left_since new)
    (images new)

-- A crash at any moment since old leaves an image that has P.
pub record LeavesOnly {D : Type 0} (moment : D → ℕ) (left_since : D → ℕ → Image → Type 0) (old new : D)
    (P : Image → Type 0) : Type 0 where
  pub later : moment old ≤ moment new
  pub each : (c : Image) → left_since new (moment old) c → P c
  -- for a run that began earlier
  pub before : (t : ℕ) (c : Image) → t ≤ moment old → left_since new t c → left_since old t c ⊎ P c
