-- What a run leaves of the store, whenever a crash comes.
use Rattle.std.specs.Prelude.{◌≡◌, ℕ, Option, None, Some, Result, Ok, Err, []}
use Rattle.flow_disk.specs.Images.{Image}
use Rattle.flow_disk.specs.Moments.{LeavesOnly}
use Rattle.txn_log.specs.Opening.{MayBeMade}
use Rattle.flow_core.specs.Summaries.{Summary}
use Rattle.flow_session.specs.Histories.{StandsFor}
use Rattle.flow_session.specs.Runs.{KeepsOrServes}
use Rattle.flow_words.specs.Outside.{Files, KeepsFiles}
use Rattle.flow_words.specs.declared.status.Status.{Status}
use Rattle.flow_words.specs.declared.status.Status.TheVariants.{Done}
use Rattle.flow_words.specs.declared.word.Word.{Word}
use Rattle.flow_words.specs.declared.word.Word.TheVariants.{Check, Fate, Try, Load, New, Run, Follow, Explain, Verify}
use Rattle.flow_words.specs.declared.word.Word.TheVariants.{Overdue, Ship}

-- a status that is not Done
abbrev pub IsFailing : Status → Type 0
IsFailing status = status ≡ Done → ⊥

-- a word ends, well or with a fault, as Done
abbrev pub EndsDone : Result Status Status → Type 0
EndsDone (Ok status) = status ≡ Done
EndsDone (Err status) = status ≡ Done

-- the history of a new store
abbrev pub empty_history : ℕ → ℕ → Summary
empty_history queues limit = record { queues = queues; limit = limit; transactions = 0; roots = 0; live = [] }

-- A store with this number of queues and this limit is made: a crash at any moment leaves what was there, or where no
-- store was there none or exactly the new one; where the run is done, every image stands for its empty history.
pub record MakesStore {D : Type 0} (queues limit : ℕ) (f : Files D) (IsDone : Type 0) : Type 0 where
  pub any_moment : LeavesOnly f.disk.moment f.disk.left_since f.old f.new (MayBeMade queues limit (f.disk.seen f.old))
  pub made : IsDone → (image : Image) → f.disk.images f.new image → StandsFor (empty_history queues limit) image

-- a crash at any moment leaves what was there; or the store is served, and it leaves the state after some of what is
-- made
abbrev pub ServesFiles : {D : Type 0} → Files D → Type 0 → Type 0
ServesFiles f IsDone =
    KeepsOrServes f.disk.tells f.disk.moment f.disk.left_since f.disk.seen f.disk.images f.old f.new IsDone

-- What a crash at any moment leaves: `new` makes the store with the settings that the words name, `run` and `follow`
-- serve it, and under every other word, and where none is said, it is what was there.
abbrev pub LeavesAtCrash : {D : Type 0} → Option Word → Files D → Type 0 → Type 0
LeavesAtCrash None f IsDone = KeepsFiles f
LeavesAtCrash (Some Check) f IsDone = KeepsFiles f
LeavesAtCrash (Some Fate) f IsDone = KeepsFiles f
LeavesAtCrash (Some (Try settings)) f IsDone = KeepsFiles f
LeavesAtCrash (Some (Load seed roots)) f IsDone = KeepsFiles f
LeavesAtCrash (Some (New settings)) f IsDone = MakesStore settings.queues settings.limit f IsDone
LeavesAtCrash (Some Run) f IsDone = ServesFiles f IsDone
LeavesAtCrash (Some Follow) f IsDone = ServesFiles f IsDone
LeavesAtCrash (Some Explain) f IsDone = KeepsFiles f
LeavesAtCrash (Some Verify) f IsDone = KeepsFiles f
LeavesAtCrash (Some Overdue) f IsDone = KeepsFiles f
LeavesAtCrash (Some (Ship number)) f IsDone = KeepsFiles f

-- where no word needs the store, the disk is as it was
abbrev pub LeavesDisk : {D : Type 0} → Option Word → Files D → Type 0
LeavesDisk None f = f.new ≡ f.old
LeavesDisk (Some Check) f = f.new ≡ f.old
LeavesDisk (Some Fate) f = f.new ≡ f.old
LeavesDisk (Some (Try settings)) f = f.new ≡ f.old
LeavesDisk (Some (Load seed roots)) f = f.new ≡ f.old
LeavesDisk (Some word) f = Unit {0}
