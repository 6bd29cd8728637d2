-- What a run over a store leaves of it, whenever a crash comes.
use Rattle.std.specs.Prelude.{◌≡◌, ◌⊎◌, ℕ}
use Rattle.flow_disk.specs.Images.{Image}
use Rattle.flow_disk.specs.Moments.{LeavesOnly}
use Rattle.flow_core.specs.Summaries.{Summary}
use Rattle.flow_session.specs.Histories.{StandsFor, after}
use Rattle.flow_session.specs.Serving.{Makes}

-- a crash at any moment leaves what was there
abbrev pub KeepsStore : {D : Type 0} → (D → ℕ) → (D → ℕ → Image → Type 0) → (D → Image) → D → D → Type 0
KeepsStore moment left_since seen old new = LeavesOnly moment left_since old new (λ image. image ≡ seen old)

-- The store stood for a summary, and the run makes transactions: a crash at any moment leaves a store that stands for
-- the summary after a front part of them; where the run is done, every image stands for the summary after all of them.
pub record ServesStore {D : Type 0} (tells : Type 0) (moment : D → ℕ) (left_since : D → ℕ → Image → Type 0)
    (seen : D → Image) (images : D → Image → Type 0) (old new : D) (IsDone : Type 0) : Type 0 where
  pub before : Summary
  pub stood : StandsFor before (seen old)
  pub makes : Makes tells moment left_since old new before
      (λ ts. IsDone → (image : Image) → images new image → StandsFor (after before ts) image)

-- a run keeps the store, or serves it
abbrev pub KeepsOrServes : {D : Type 0} → Type 0 → (D → ℕ) → (D → ℕ → Image → Type 0) → (D → Image)
    → (D → Image → Type 0) → D → D → Type 0 → Type 0
KeepsOrServes tells moment left_since seen images old new IsDone =
    KeepsStore moment left_since seen old new
    ⊎ ServesStore tells moment left_since seen images old new IsDone
