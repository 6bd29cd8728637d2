-- How following comes along a stream, frame by frame: the stages that it reaches, and why it ends at one.
use Rattle.std.specs.Prelude.{◌≡◌, ◌⊎◌, ℕ, ◌+◌, ◌<◌, ◌≤◌, List, [], length, Option, Ok, Err, Result, IfErr}
use Rattle.std.specs.Io.KnownBytes.{IsAtEnd, prepend_known}
use Rattle.txn_log.specs.Records.{IsPayload}
use Rattle.txn_log.specs.declared.stops.LogStop.TheVariants.{StoreFault}
use Rattle.flow_model.specs.declared.transactions.Transaction.{Transaction}
use Rattle.flow_txn.specs.Ranges.{IsInRange}
use Rattle.flow_txn.specs.Records.{record_bytes}
use Rattle.flow_core.specs.Admitting.{IsAdmitted, IsRefused}
use Rattle.flow_core.specs.Summaries.{summary}
use Rattle.flow_core.specs.declared.state.Core.{Core}
use Rattle.core_laws.specs.RightStates.{Makes}
use Rattle.machine.specs.Steps.{Steps}
use Rattle.machine_laws.specs.Applied.{Applied}
use Rattle.machine_laws.specs.Viewed.{view}
use Rattle.standby.specs.Frames.{IsCut, IsBroken, ReadsPart, ReadsAll, most_frame}
use Rattle.standby.specs.Fronts.{FrontJudged}
use Rattle.standby.specs.Readers.{Reader, GoesOn, Gives, ahead, most_held}
use Rattle.standby.specs.Streams.{front_bytes, frame_bytes, end_bytes}
use Rattle.standby.specs.declared.following.Followed.{Followed}
use Rattle.standby.specs.declared.frames.Front.{Front}
use Rattle.standby.specs.declared.stops.FollowStop.{FollowStop}
use Rattle.standby.specs.declared.stops.FollowStop.TheVariants.{Store, Frame, Cut, NotAllowed, ReadFault, TooLong}
use Rattle.standby.specs.declared.stops.FollowStop.TheVariants.{NoMemory}

-- ---- the transaction of a frame

-- a transaction that the store doesn't have is admitted under its number, and makes the next state, which is a step of
-- the machine
pub record Adopts (c : Core) (number : ℕ) (t : Transaction) (c' : Core) : Type 0 where
  pub beyond : c.number < number
  pub admitted : IsAdmitted c number t
  pub makes : Makes c t c'
  pub applied : Applied c t c'
  pub steps : Steps (view c) t (view c')

-- a transaction is passed over where the store has it, else it is adopted and counted as taken
abbrev pub Takes : ℕ → Transaction → Core → ℕ → Core → ℕ → Type 0
Takes number t c taken c' taken' =
    ((number ≤ c.number) × (c' ≡ c) × (taken' ≡ taken))
    ⊎ (Adopts c number t c' × (taken' ≡ taken + 1))

-- why a transaction isn't taken: it isn't admitted; or it is, and the disk failed where it was kept; or there was no
-- memory
abbrev pub StopsTaking : Core → ℕ → Transaction → FollowStop → Type 0
StopsTaking c number t (NotAllowed told) = (told ≡ number) × (c.number < number) × IsRefused c number t
StopsTaking c number t (Store StoreFault) = (c.number < number) × IsAdmitted c number t
StopsTaking c number t NoMemory = Unit {0}
StopsTaking c number t stop = ⊥

-- a payload is the record of a transaction under this number
pub record IsRecord (number : ℕ) (t : Transaction) (payload : List ℕ) : Type 0 where
  pub range : IsInRange number t
  pub spelled : record_bytes number t ≡ payload

-- a payload is no record under this number
abbrev pub IsNoRecord : ℕ → List ℕ → Type 0
IsNoRecord number payload = (t : Transaction) → IsRecord number t payload → ⊥

-- the transaction of a payload is taken under its number
pub record TakesPayload (number : ℕ) (payload : List ℕ) (c : Core) (taken : ℕ) (c' : Core) (taken' : ℕ) : Type 0 where
  pub transaction : Transaction
  pub is : IsRecord number transaction payload
  pub takes : Takes number transaction c taken c' taken'

-- why the payload of the frame at a place isn't taken under its number: it is no record under it, or its transaction
-- isn't taken
abbrev pub StopsPayload : ℕ → ℕ → List ℕ → Core → FollowStop → Type 0
StopsPayload place number payload c (Frame at) = (at ≡ place) × IsNoRecord number payload
StopsPayload place number payload c NoMemory = Unit {0}
StopsPayload place number payload c stop = (t : Transaction) × IsRecord number t payload × StopsTaking c number t stop

-- ---- stages

-- the state of the store, how many transactions were taken, the number of the last frame, how many bytes were read, and
-- those that are still to be read, where the source tells them
pub record Stage : Type 0 where
  pub core : Core
  pub taken : ℕ
  pub number : ℕ
  pub place : ℕ
  pub left : Option (List ℕ)

-- the stage where a reader is
abbrev pub stage : Core → ℕ → ℕ → Reader → Option (List ℕ) → Stage
stage c taken number reader left =
    record { core = c; taken = taken; number = number; place = reader.place; left = ahead reader left }

-- these bytes are the next ones at a stage
abbrev pub ReadsAt : Stage → Option (List ℕ) → List ℕ → Type 0
ReadsAt s after bytes = Gives s.place s.left after bytes

-- the frame of the next number is read, and its transaction is taken
pub record Passes (s s' : Stage) : Type 0 where
  pub payload : List ℕ
  pub allowed : IsPayload payload
  pub frame : ReadsAt s s'.left (frame_bytes payload)
  pub place : s'.place ≡ s.place + length (frame_bytes payload)
  pub number : s'.number ≡ s.number + 1
  pub takes : TakesPayload s'.number payload s.core s.taken s'.core s'.taken

-- a stage is reached from another: it is that one, or one frame further than one that is reached
pub data Reaches (s : Stage) : Stage → Type 0 where
  Here : Reaches s s
  Further : {mid to : Stage} → Reaches s mid → Passes mid to → Reaches s to

-- the last stage that is reached is of this kind
pub record Goes (s : Stage) (IsLast : Stage → Type 0) : Type 0 where
  pub last : Stage
  pub reached : Reaches s last
  pub ended : IsLast last

-- ---- the end

-- at a stage the stream ends: with its end, and nothing behind it
abbrev pub IsEnded : Stage → Option (List ℕ) → Type 0
IsEnded s after = ReadsAt s after end_bytes × IsAtEnd after

-- a whole frame is read at a stage, of a payload that stops following
pub record StopsFrameAt (s : Stage) (after : Option (List ℕ)) (stop : FollowStop) : Type 0 where
  pub payload : List ℕ
  pub allowed : IsPayload payload
  pub frame : ReadsAt s after (frame_bytes payload)
  pub stops : StopsPayload s.place (s.number + 1) payload s.core stop

-- why following ends at a stage, before its next frame is taken
abbrev pub StopsAt : Stage → Option (List ℕ) → FollowStop → Type 0
StopsAt s after (Frame at) =
    ((at ≡ s.place) × ReadsPart IsBroken s.place s.left after)
    ⊎ (StopsFrameAt s after (Frame at) ⊎ ((at ≡ s.place + 1) × ReadsAt s after end_bytes × GoesOn after))
StopsAt s after (Cut number) = (number ≡ s.core.number) × ReadsPart IsCut s.place s.left after × IsAtEnd after
StopsAt s after TooLong = ReadsAll s.place s.left after
StopsAt s after ReadFault = ReadsPart IsCut s.place s.left after ⊎ ReadsAt s after end_bytes
StopsAt s after NoMemory = ReadsPart IsCut s.place s.left after ⊎ StopsFrameAt s after NoMemory
StopsAt s after stop = StopsFrameAt s after stop

-- What is kept where following stops at a stage: the state there, also where there was no memory; after a fault of the
-- store that state, or the one at a stage that is reached behind it, at most a frame and a block further.
abbrev pub KeepsAt : (Core → Type 0) → (Core → Core → Type 0) → Stage → FollowStop → Type 0
KeepsAt IsKept MayKeep s (Store stop) =
    Goes s (λ behind. MayKeep s.core behind.core × (behind.place ≤ s.place + most_frame + most_held))
KeepsAt IsKept MayKeep s stop = IsKept s.core

-- following ends at a stage, and what is kept is as `KeepsAt` says
abbrev pub StopsKept : (Core → Type 0) → (Core → Core → Type 0) → Stage → Option (List ℕ) → FollowStop → Type 0
StopsKept IsKept MayKeep s after stop = StopsAt s after stop × KeepsAt IsKept MayKeep s stop

-- the frames behind a stage are followed to a last stage, where the stream ends with this state and number of
-- transactions taken, or following stops
abbrev pub FollowsFrames : {T : Type 0} → (Core → Type 0) → (Core → Core → Type 0) → Stage → Option (List ℕ) → Core → ℕ
    → Result T FollowStop → Type 0
FollowsFrames IsKept MayKeep s after c taken (Ok x) =
    Goes s (λ last. IsEnded last after × (last.core ≡ c) × (last.taken ≡ taken))
FollowsFrames IsKept MayKeep s after c taken (Err stop) = Goes s (λ last. StopsKept IsKept MayKeep last after stop)

-- the same for what a source has left: of the bytes taken from it at most a block may not be read yet, but none where
-- it failed
pub record FollowsHeld {T : Type 0} (IsKept : Core → Type 0) (MayKeep : Core → Core → Type 0) (s : Stage)
    (left : Option (List ℕ)) (c : Core) (taken : ℕ) (result : Result T FollowStop) : Type 0 where
  pub held : List ℕ
  pub block : length held ≤ most_held
  pub follows : FollowsFrames IsKept MayKeep s (prepend_known held left) c taken result
  pub dry : IfErr result (λ stop. stop ≡ ReadFault → held ≡ [])

-- ---- a stream

-- the bytes of a front: the first 25, or all that there are
pub record ReadsFront (left mid : Option (List ℕ)) (bytes : List ℕ) : Type 0 where
  pub given : Gives 0 left mid bytes
  pub size : (length bytes ≡ 25) ⊎ ((length bytes < 25) × IsAtEnd mid)

-- the front of a stream is refused
pub record RefusesFront (c : Core) (left : Option (List ℕ)) (stop : FollowStop) : Type 0 where
  pub bytes : List ℕ
  pub mid : Option (List ℕ)
  pub front : ReadsFront left mid bytes
  pub judged : FrontJudged (summary c) bytes (Err stop)

-- a fault, or want of memory, comes before the front of a stream is read
abbrev pub StopsBefore : Option (List ℕ) → Option (List ℕ) → FollowStop → Type 0
StopsBefore left after ReadFault = ReadsPart (λ part. length part < 25) 0 left after
StopsBefore left after NoMemory = ReadsPart (λ part. length part < 25) 0 left after
StopsBefore left after stop = ⊥

-- the stage behind a front
abbrev pub behind : Core → Front → Option (List ℕ) → Stage
behind c front left = record { core = c; taken = 0; number = front.from; place = 25; left = left }

-- the front of a stream is taken, and from there on following goes to a last stage
pub record PassesFront (c : Core) (left : Option (List ℕ)) (IsLast : Stage → Type 0) : Type 0 where
  pub front : Front
  pub mid : Option (List ℕ)
  pub read : ReadsFront left mid (front_bytes front)
  pub judged : FrontJudged (summary c) (front_bytes front) (Ok front)
  pub goes : Goes (behind c front mid) IsLast

-- the stream ends at a stage, of which this is told
pub record IsDone (IsKept : Core → Type 0) (after : Option (List ℕ)) (followed : Followed) (last : Stage) : Type 0 where
  pub ended : IsEnded last after
  pub number : followed.number ≡ last.core.number
  pub taken : followed.taken ≡ last.taken
  pub kept : IsKept last.core

-- A stream is followed from a state on. Where the stream ends, the state at its last stage is kept; else its front
-- isn't read or is refused, and the state is kept, or following ends at a stage, and what is kept is as
-- `KeepsAt` says.
abbrev pub Follows : (Core → Type 0) → (Core → Core → Type 0) → Core → Option (List ℕ) → Option (List ℕ)
    → Result Followed FollowStop → Type 0
Follows IsKept MayKeep c left after (Ok followed) = PassesFront c left (IsDone IsKept after followed)
Follows IsKept MayKeep c left after (Err stop) =
    ((StopsBefore left after stop ⊎ RefusesFront c left stop) × IsKept c)
    ⊎ PassesFront c left (λ last. StopsKept IsKept MayKeep last after stop)

-- the same by what a source had left and has left: of the bytes taken from it at most a block may not be read yet, but
-- none where it failed
pub record FollowsSource (IsKept : Core → Type 0) (MayKeep : Core → Core → Type 0) (c : Core)
    (left left' : Option (List ℕ)) (result : Result Followed FollowStop) : Type 0 where
  pub held : List ℕ
  pub block : length held ≤ most_held
  pub follows : Follows IsKept MayKeep c left (prepend_known held left') result
  pub dry : result ≡ Err ReadFault → length held ≡ 0
