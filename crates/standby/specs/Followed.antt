-- How a stream is followed into a store.
use Rattle.std.specs.Prelude.{◌≡◌, ◌⊎◌, ℕ, ◌≤◌, List, Option, Result}
use Rattle.flow_disk.specs.Images.{Image}
use Rattle.flow_disk.specs.Moments.{LeavesOnly, Only}
use Rattle.flow_core.specs.Summaries.{summary}
use Rattle.flow_core.specs.declared.state.Core.{Core}
use Rattle.flow_session.specs.Histories.{StandsFor}
use Rattle.flow_session.specs.Refusing.{IsOpenedTo}
use Rattle.flow_session.specs.Replaying.{Replays}
use Rattle.flow_session.specs.Serving.{Makes}
use Rattle.txn_log.specs.declared.stops.LogStop.{LogStop}
use Rattle.standby.specs.Adopting.{AdoptsAll}
use Rattle.standby.specs.Stages.{FollowsSource, Goes, PassesFront, Stage}
use Rattle.standby.specs.declared.following.Followed.{Followed}
use Rattle.standby.specs.declared.stops.FollowStop.{FollowStop}
use Rattle.standby.specs.declared.stops.FollowStop.TheVariants.{Store, NoMemory}

-- a store isn't opened, for a cause of which this is so
abbrev pub IsNotOpened : (LogStop → Type 0) → FollowStop → Type 0
IsNotOpened so (Store stop) = so stop
IsNotOpened so NoMemory = Unit {0}
IsNotOpened so stop = ⊥

-- why a store isn't opened, as the end of following
abbrev pub IsEndBy : LogStop → FollowStop → Type 0
IsEndBy stop (Store found) = found ≡ stop
IsEndBy stop NoMemory = Unit {0}
IsEndBy stop ended = ⊥

-- whatever a disk that tells its bytes may leave stands for one of two states
abbrev pub StandsForEither : Type 0 → (Image → Type 0) → Core → Core → Type 0
StandsForEither tells images c c' =
    tells → (image : Image) → images image → StandsFor (summary c) image ⊎ StandsFor (summary c') image

-- an image stands for the state at a stage that is reached from this one
abbrev pub StandsBehind : Stage → Image → Type 0
StandsBehind s image = Goes s (λ behind. StandsFor (summary behind.core) image)

-- an image stands for a state, or for the state at a stage of the stream that is followed from it
abbrev pub IsAtStage : Core → Option (List ℕ) → Image → Type 0
IsAtStage c left image =
    StandsFor (summary c) image ⊎ PassesFront c left (λ s. StandsFor (summary s.core) image)

-- A store is opened, and a stream is followed from its state on. Where the disk tells its bytes, that is what they
-- stand for, and what its records give by the steps of the machine. The transactions that are made are adopted one
-- after the other, and a crash at any moment leaves the state at a stage of the stream. Whatever the disk may leave at
-- the end stands for the state at the last stage; after a fault of the store, for that one or for the state at one
-- stage behind it.
pub record FollowsOpened {D : Type 0} (tells : Type 0) (moment : D → ℕ) (left_since : D → ℕ → Image → Type 0)
    (seen : D → Image) (images : D → Image → Type 0) (old new : D) (left left' : Option (List ℕ))
    (result : Result Followed FollowStop) : Type 0 where
  pub core : Core
  pub stood : tells → StandsFor (summary core) (seen old)
  pub state : tells → Replays (seen old) core
  pub reached : tells → IsOpenedTo (seen old) core
  pub queued : tells → 1 ≤ (summary core).queues
  pub makes : tells → Only (seen old) (images old) → Makes tells moment left_since old new (summary core)
      (λ ts. (last : Core) × AdoptsAll core ts last)
  pub stages : tells → Only (seen old) (images old) → LeavesOnly moment left_since old new (IsAtStage core left)
  pub follows : 1 ≤ (summary core).queues
      → FollowsSource (λ now. tells → (image : Image) → images new image → StandsFor (summary now) image)
      (StandsForEither tells (images new)) core left left' result
