-- What `new` makes, and what it prints.
use Rattle.std.specs.Prelude.{◌⊎◌, ℕ, Option, List, codes}
use Rattle.flow_disk.specs.Images.{Image}
use Rattle.txn_log.specs.Opening.{IsMakeRefusal}
use Rattle.txn_log.specs.Stores.{store_of}
use Rattle.txn_log.specs.declared.stops.LogStop.{LogStop}
use Rattle.flow_session.specs.Histories.{StandsFor}
use Rattle.flow_words.specs.Crashes.{empty_history}
use Rattle.flow_words.specs.Openings.{RefusesStore}
use Rattle.flow_words.specs.Outside.{Files}
use Rattle.flow_words.specs.Printed.{Prints}
use Rattle.flow_words.specs.declared.status.Status.{Status}
use Rattle.flow_words.specs.declared.status.Status.TheVariants.{Done}

-- a store is made: every image stands for the empty history with these queues and this limit, and that it is made is
-- printed
pub record IsMade {D : Type 0} (queues limit : ℕ) (f : Files D) (held held' : Option (List ℕ)) (ended : Status)
    : Type 0 where
  pub stands : f.disk.tells → (image : Image) → f.disk.images f.new image
      → StandsFor (empty_history queues limit) image
  pub printed : Prints (codes "ok NEW\n") Done held held' ended

-- none is made for a cause that the store tells, which is printed
pub record IsNotMade {D : Type 0} (f : Files D) (held held' : Option (List ℕ)) (ended : Status) : Type 0 where
  pub stop : LogStop
  pub told : f.disk.tells → IsMakeRefusal stop (store_of (f.disk.seen f.old))
  pub refused : RefusesStore stop held held' ended

-- `new`: a store with these queues and this limit is made, or none is
abbrev pub PrintsMade : {D : Type 0} → ℕ → ℕ → Files D → Option (List ℕ) → Option (List ℕ) → Status → Type 0
PrintsMade queues limit f held held' ended = IsMade queues limit f held held' ended ⊎ IsNotMade f held held' ended
