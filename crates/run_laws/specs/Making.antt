-- That a store which the program makes is a blank state's own.
use Rattle.std.specs.Prelude.{◌≡◌, ◌⊎◌, ℕ, List, Some}
use Rattle.flow_disk.specs.Images.{Image}
use Rattle.flow_disk.specs.Moments.{LeavesOnly}
use Rattle.flow_disk.specs.declared.disk.Disk.{Ghosts}
use Rattle.flow_words.specs.Correct.{RunIsCorrect}
use Rattle.flow_words.specs.Crashes.{MakesStore}
use Rattle.flow_words.specs.Outside.{Channels, Files, files}
use Rattle.flow_words.specs.declared.numbers.Settings.{Settings}
use Rattle.flow_words.specs.declared.status.Status.{Status}
use Rattle.flow_words.specs.declared.status.Status.TheVariants.{Done}
use Rattle.flow_words.specs.declared.word.Word.TheVariants.{New}
use Rattle.machine.specs.States.{blank}
use Rattle.txn_log.specs.Stores.{NoStore, store_of}
use Rattle.compaction_laws.specs.OwnStores.{IsOwn}
use Rattle.run_laws.specs.Runs.{IsSettled}

-- an image is what was there; or where no store was there, it has none, or is the own one of a blank state
abbrev pub MayBeOwn : ℕ → ℕ → Image → Image → Type 0
MayBeOwn queues limit was image =
    (image ≡ was)
    ⊎ ((store_of was ≡ NoStore) × ((store_of image ≡ NoStore) ⊎ IsOwn (blank queues limit) image))

-- A new store is own: a crash at any moment leaves what was there, or where that was no store none, or a blank state's
-- own one; and where the run ends well, each image is that.
pub record MakesOwn {D : Type 0} (queues limit : ℕ) (f : Files D) (ended : Status) : Type 0 where
  pub any_moment : LeavesOnly f.disk.moment f.disk.left_since f.old f.new (MayBeOwn queues limit (f.disk.seen f.old))
  pub made : ended ≡ Done → (image : Image) → f.disk.images f.new image → IsOwn (blank queues limit) image

-- a store that is made is a blank state's own
abbrev pub MadeStoresAreOwn : {D : Type 0} → Ghosts D → Type 0
MadeStoresAreOwn {D} g =
    (queues limit : ℕ) (old new : D) (ended : Status) → MakesStore queues limit (files g old new) (ended ≡ Done)
    → MakesOwn queues limit (files g old new) ended

-- so it is of each run of the program that is correct, where the words say `new`
abbrev pub CorrectNewsAreOwn : {D : Type 0} → Ghosts D → Type 0
CorrectNewsAreOwn {D} g =
    (words : List (List ℕ)) (c : Channels) (old new : D) (ended : Status) (settings : Settings) → IsSettled g old
    → (correct : RunIsCorrect words c (files g old new) ended) → correct.word ≡ Some (New settings)
    → MakesOwn settings.queues settings.limit (files g old new) ended
