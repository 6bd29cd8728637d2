-- What a crash leaves of a store into which `follow` takes a stream: a store that is opened again, to a state to which
-- commands led.
use Rattle.std.specs.Prelude.{◌≡◌, ◌⊎◌, ℕ, List, Option, Some, Result}
use Rattle.core_laws.specs.RightStates.{IsRightCore}
use Rattle.flow_core.specs.declared.state.Core.{Core}
use Rattle.flow_disk.specs.Images.{Image}
use Rattle.flow_disk.specs.Moments.{LeavesOnly}
use Rattle.flow_disk.specs.declared.disk.Disk.{Ghosts}
use Rattle.flow_model.specs.declared.transactions.Transaction.{Transaction}
use Rattle.flow_words.specs.Correct.{RunIsCorrect}
use Rattle.flow_words.specs.Crashes.{IsFailing}
use Rattle.flow_words.specs.Following.{PrintsFollowed, PrintsResult}
use Rattle.flow_words.specs.Outside.{Channels, Files, files, KeepsFiles}
use Rattle.flow_words.specs.declared.status.Status.{Status}
use Rattle.flow_words.specs.declared.word.Word.TheVariants.{Follow}
use Rattle.machine.specs.States.{State}
use Rattle.machine_laws.specs.Viewed.{view}
use Rattle.machine_laws.specs.Keyed.{AreKeyed}
use Rattle.reopening_laws.specs.Making.{MadeByCommands}
use Rattle.compaction_laws.specs.Compact.{IsMadeAnew}
use Rattle.compaction_laws.specs.OwnStores.{IsOwn, IsOwnAfterSome}
use Rattle.standby.specs.Adopting.{AdoptsAll}
use Rattle.standby.specs.Stages.{FollowsSource, PassesFront}
use Rattle.standby.specs.declared.following.Followed.{Followed}
use Rattle.standby.specs.declared.stops.FollowStop.{FollowStop}
use Rattle.run_laws.specs.Runs.{IsSettled, LeavesReopening}

-- ---- what a stream leaves

-- an image is the own one of a state, or of the state at a stage of the stream that is followed from it
abbrev pub IsOwnAtStage : Core → Option (List ℕ) → Image → Type 0
IsOwnAtStage c left image = IsOwn (view c) image ⊎ PassesFront c left (λ s. IsOwn (view s.core) image)

-- each of these images is a state's own
abbrev pub AreOwnOf : (Image → Type 0) → Core → Type 0
AreOwnOf images c = (image : Image) → images image → IsOwn (view c) image

-- each of them is the own one of one of two states
abbrev pub AreOwnOfEither : (Image → Type 0) → Core → Core → Type 0
AreOwnOfEither images c c' = (image : Image) → images image → IsOwn (view c) image ⊎ IsOwn (view c') image

-- A stream is followed from a state: whatever a crash leaves at any moment is the own image of the state at one of its
-- stages. Behind the run each image is that of the state at the last stage, where the stream ends or following stops;
-- after a fault of the store, of that one or of the one at a stage behind it. The result is printed.
pub record FollowsStages {D : Type 0} (c : Channels) (f : Files D) (s : State) (ended : Status) : Type 0 where
  pub core : Core
  pub seen : view core ≡ s
  pub any_moment : LeavesOnly f.disk.moment f.disk.left_since f.old f.new (IsOwnAtStage core c.left)
  pub result : Result Followed FollowStop
  pub over : FollowsSource (AreOwnOf (f.disk.images f.new)) (AreOwnOfEither (f.disk.images f.new)) core c.left c.left'
      result
  pub printed : PrintsResult result c.held c.held' ended

-- the store isn't opened: the run doesn't end well, and a crash leaves what was there
abbrev pub IsUnfollowed : {D : Type 0} → Files D → Status → Type 0
IsUnfollowed f ended = IsFailing ended × KeepsFiles f

-- A run that follows a stream keeps a state's own store: commands make the transactions that it takes from the stream,
-- and whatever a crash leaves at any moment is the own image of the state after a front part of them, which is one at a
-- stage of the stream; or the store isn't opened. So it is however the run ends.
pub record FollowKeepsOwn {D : Type 0} (c : Channels) (f : Files D) (s : State) (ended : Status) : Type 0 where
  pub transactions : List Transaction
  pub last : State
  pub made : MadeByCommands s transactions last
  pub any_moment : LeavesOnly f.disk.moment f.disk.left_since f.old f.new (IsOwnAfterSome s transactions)
  pub follows : IsUnfollowed f ended ⊎ FollowsStages c f s ended

-- ---- laws

-- Commands make the transactions that a state of the engine adopts, one after the other: where the state is right, its
-- keys are the machine's, and its live transactions are made again.
abbrev pub AdoptedAreMade : Type 0
AdoptedAreMade =
    (c c' : Core) (ts : List Transaction) → IsRightCore c → AreKeyed c → IsMadeAnew (view c) → AdoptsAll c ts c'
    → MadeByCommands (view c) ts (view c')

-- a run that follows a stream into a store that is a state's own keeps it so
abbrev pub FollowsKeepOwn : {D : Type 0} → Ghosts D → Type 0
FollowsKeepOwn {D} g =
    (c : Channels) (old new : D) (ended : Status) (s : State) → IsSettled g old → IsOwn s (g.seen old)
    → PrintsFollowed c (files g old new) ended → FollowKeepsOwn c (files g old new) s ended

-- and whatever a crash leaves of it is opened again, unless a fault or want of memory comes, to no state but one to
-- which commands led
abbrev pub FollowsReopen : {D : Type 0} → Ghosts D → Type 0
FollowsReopen {D} g =
    (c : Channels) (old new : D) (ended : Status) (s : State) (keeps : FollowKeepsOwn c (files g old new) s ended)
    → LeavesReopening (files g old new) s keeps.transactions

-- so it is of each run of the program that is correct, where the words say `follow`
abbrev pub CorrectFollowsKeepOwn : {D : Type 0} → Ghosts D → Type 0
CorrectFollowsKeepOwn {D} g =
    (words : List (List ℕ)) (c : Channels) (old new : D) (ended : Status) (s : State) → IsSettled g old
    → IsOwn s (g.seen old) → (correct : RunIsCorrect words c (files g old new) ended) → correct.word ≡ Some Follow
    → (keeps : FollowKeepsOwn c (files g old new) s ended)
    × LeavesReopening (files g old new) s keeps.transactions
