-- What a call of a session does to its journal.
use Rattle.std.specs.Prelude.{◌⊎◌, ℕ, ◌-◌, List, length, take, Result, Ok, Err}
use Rattle.flow_model.specs.declared.transactions.Transaction.{Transaction}
use Rattle.flow_disk.specs.Images.{Image}
use Rattle.flow_disk.specs.Moments.{LeavesOnly}
use Rattle.flow_core.specs.Summaries.{Summary, next}
use Rattle.flow_session.specs.Fitting.{AreFitFrom, AreFitNow, HasFitRecords}
use Rattle.flow_session.specs.Histories.{StandsFor, StandsAfterSome, after}
use Rattle.flow_session.specs.declared.serving.Stop.{Stop}
use Rattle.flow_session.specs.declared.serving.Stop.TheVariants.{StoreFault, NoMemory}

-- an image stands for a summary, or for it with one transaction more
abbrev pub WithOrWithout : Transaction → Summary → Image → Type 0
WithOrWithout t s image = StandsFor s image ⊎ StandsFor (next t s) image

-- an image stands for a summary, or for the one after all of these transactions
abbrev pub AllOrNone : List Transaction → Summary → Image → Type 0
AllOrNone ts s image = StandsFor s image ⊎ StandsFor (after s ts) image

-- A call makes these transactions, one after the other: whatever a crash during the call leaves stands for the summary
-- after a front part of them, and at the end of the call this holds of the whole list. Where all records were fit and
-- those of the transactions are, no crash during the call leaves an unfit one.
pub record Makes {J : Type 0} (tells : Type 0) (moment : J → ℕ) (left_since : J → ℕ → Image → Type 0) (old new : J)
    (before : Summary) (IsEnd : List Transaction → Type 0) : Type 0 where
  pub transactions : List Transaction
  pub any_moment : tells → LeavesOnly moment left_since old new (StandsAfterSome before transactions)
  pub fit : tells → AreFitNow moment left_since old → AreFitFrom before transactions
      → LeavesOnly moment left_since old new HasFitRecords
  pub ended : IsEnd transactions

-- these transactions without the last one
abbrev pub but_last : List Transaction → List Transaction
but_last ts = take (length ts - 1) ts

-- whatever a crash leaves now stands for the summary after all of these transactions, or after all but the last one
abbrev pub KeepsAllButLast : {J : Type 0} → (J → ℕ) → (J → ℕ → Image → Type 0) → J → Summary → List Transaction
    → Type 0
KeepsAllButLast moment left_since journal s ts =
    (image : Image) → left_since journal (moment journal) image
    → StandsFor (after s (but_last ts)) image ⊎ StandsFor (after s ts) image

-- What a journal keeps at the end of a call that made these transactions: all of them, also where there was no memory
-- for more; after a fault of the store, all of them or all but the last one.
abbrev pub KeepsMade : {J T : Type 0} → (J → Summary → Type 0) → (J → ℕ) → (J → ℕ → Image → Type 0) → J → Summary
    → List Transaction → Result T Stop → Type 0
KeepsMade holds moment left_since journal s ts (Ok x) = holds journal (after s ts)
KeepsMade holds moment left_since journal s ts (Err NoMemory) = holds journal (after s ts)
KeepsMade holds moment left_since journal s ts (Err StoreFault) = KeepsAllButLast moment left_since journal s ts
