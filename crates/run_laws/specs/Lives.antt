-- A store from run to run: where one run began, a crash at any moment of the run before, or its end, had left it.
use Rattle.std.specs.Prelude.{◌≡◌, ℕ, List, Some}
use Rattle.flow_disk.specs.Images.{Image}
use Rattle.flow_disk.specs.declared.disk.Disk.{Ghosts}
use Rattle.flow_model.specs.declared.transactions.Transaction.{Transaction}
use Rattle.flow_words.specs.Correct.{RunIsCorrect}
use Rattle.flow_words.specs.Outside.{Channels, files, KeepsFiles}
use Rattle.flow_words.specs.declared.numbers.Settings.{Settings}
use Rattle.flow_words.specs.declared.status.Status.{Status}
use Rattle.flow_words.specs.declared.word.Word.TheVariants.{New, Run, Follow}
use Rattle.machine.specs.States.{State, blank}
use Rattle.reopening_laws.specs.Making.{MadeByCommands}
use Rattle.txn_log.specs.Stores.{NoStore, store_of}
use Rattle.compaction_laws.specs.OwnStores.{IsOwn}
use Rattle.run_laws.specs.Runs.{IsReopenedTo, IsSettled}

-- runs of the program left this image, each whole or up to a crash: `new` made a store with these settings where none
-- was, and since then each run was one under `run` or `follow`, or one that leaves what was there
pub data IsLeft {D : Type 0} (g : Ghosts D) (settings : Settings) : Image → Type 0 where
  WasMade : {image : Image} (words : List (List ℕ)) (c : Channels) (old new : D) (ended : Status) → IsSettled g old
      → store_of (g.seen old) ≡ NoStore → (correct : RunIsCorrect words c (files g old new) ended)
      → correct.word ≡ Some (New settings) → g.left_since new (g.moment old) image → (store_of image ≡ NoStore → ⊥)
      → IsLeft g settings image
  WasRun : {image : Image} (words : List (List ℕ)) (c : Channels) (old new : D) (ended : Status) → IsSettled g old
      → IsLeft g settings (g.seen old) → (correct : RunIsCorrect words c (files g old new) ended)
      → correct.word ≡ Some Run → g.left_since new (g.moment old) image → IsLeft g settings image
  WasFollowed : {image : Image} (words : List (List ℕ)) (c : Channels) (old new : D) (ended : Status)
      → IsSettled g old → IsLeft g settings (g.seen old) → (correct : RunIsCorrect words c (files g old new) ended)
      → correct.word ≡ Some Follow → g.left_since new (g.moment old) image → IsLeft g settings image
  WasKept : {image : Image} (old new : D) → IsLeft g settings (g.seen old) → KeepsFiles (files g old new)
      → g.left_since new (g.moment old) image → IsLeft g settings image

-- ---- laws

-- a store that the program made is a state's own, whatever runs and crashes left of it: of one to which commands led
-- from the blank state
abbrev pub LeftStoresAreOwn : {D : Type 0} → Ghosts D → Type 0
LeftStoresAreOwn {D} g =
    (settings : Settings) (image : Image) → IsLeft g settings image
    → (ts : List Transaction) × (s : State) × MadeByCommands (blank settings.queues settings.limit) ts s × IsOwn s image

-- so it is opened again, unless a fault or want of memory comes, to no state but that
abbrev pub LeftStoresReopen : {D : Type 0} → Ghosts D → Type 0
LeftStoresReopen {D} g =
    (settings : Settings) (image : Image) → IsLeft g settings image
    → (ts : List Transaction) × (s : State) × MadeByCommands (blank settings.queues settings.limit) ts s
    × IsReopenedTo s image
