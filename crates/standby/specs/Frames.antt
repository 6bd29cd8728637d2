-- How a stream is taken frame by frame: what may stand at the front of the bytes that are to be read.
use Rattle.std.specs.Prelude.{◌≡◌, ◌≢◌, ◌⊎◌, ℕ, ◌+◌, ◌-◌, ◌^◌, ◌<◌, ◌≤◌, Bool, true, false, List, [], ◌∷◌, ◌++◌, length}
use Rattle.std.specs.Prelude.{Option, Result, Ok, Err}
use Rattle.std.specs.Int.{w32, to_be_bytes}
use Rattle.std.specs.Io.KnownBytes.{IsAtEnd, Keeps}
use Rattle.txn_log.specs.Records.{IsPayload}
use Rattle.standby.specs.Readers.{Reader, GoesOn, Gives}
use Rattle.standby.specs.Streams.{frame_bytes, end_bytes}
use Rattle.standby.specs.declared.stops.FollowStop.{FollowStop}
use Rattle.standby.specs.declared.stops.FollowStop.TheVariants as follow

-- ---- a frame that isn't whole

-- a length that a payload may have
abbrev pub IsLength : ℕ → Type 0
IsLength len = (0 < len) × (len ≤ 2097152)

-- the greatest length of a frame: a byte, four with the length of the payload, and the payload
abbrev pub most_frame : ℕ
most_frame = 2097157

-- a frame with a payload of this length begins so
abbrev pub head_bytes : ℕ → List ℕ
head_bytes len = 1 ∷ to_be_bytes w32 len

-- a frame begins, and its length isn't whole
pub record CutsLength (part : List ℕ) : Type 0 where
  pub front : List ℕ
  pub short : length front < 4
  pub bytes : part ≡ 1 ∷ front

-- a frame begins, and its payload isn't whole
pub record CutsPayload (part : List ℕ) : Type 0 where
  pub len : ℕ
  pub front : List ℕ
  pub allowed : IsLength len
  pub short : length front < len
  pub bytes : part ≡ head_bytes len ++ front

-- so far nothing tells what these bytes are: there are none, or they are the front part of a frame
abbrev pub IsCut : List ℕ → Type 0
IsCut part = (part ≡ []) ⊎ (CutsLength part ⊎ CutsPayload part)

-- ---- what is no frame

-- the first byte is neither that of the end nor that of a frame
pub record BeginsOtherwise (part : List ℕ) : Type 0 where
  pub first : ℕ
  pub no_end : first ≢ 0
  pub no_frame : first ≢ 1
  pub bytes : part ≡ first ∷ []

-- a frame begins, with a length that no payload may have
pub record HasOtherLength (part : List ℕ) : Type 0 where
  pub len : ℕ
  pub fits : len < 2 ^ 32
  pub other : (len ≡ 0) ⊎ (2097152 < len)
  pub bytes : part ≡ head_bytes len

-- neither a frame nor the end begins with these bytes, the last of which tells
abbrev pub IsBroken : List ℕ → Type 0
IsBroken part = BeginsOtherwise part ⊎ HasOtherLength part

-- ---- reading

-- what is read behind a place is of this kind
pub record ReadsPart (Is : List ℕ → Type 0) (place : ℕ) (before after : Option (List ℕ)) : Type 0 where
  pub part : List ℕ
  pub given : Gives place before after part
  pub is : Is part

-- what is read behind a place is the front part of a frame, and there is more, but no stream may have it
pub record ReadsAll (place : ℕ) (before after : Option (List ℕ)) : Type 0 where
  pub part : List ℕ
  pub given : Gives place before after part
  pub cut : IsCut part
  pub all : place + length part ≡ 268435456
  pub more : GoesOn after

-- why the frame that begins at a place isn't read; a cut tells this number
abbrev pub StopsFrame : ℕ → ℕ → Option (List ℕ) → Option (List ℕ) → FollowStop → Type 0
StopsFrame place number before after (follow.Frame at) = (at ≡ place) × ReadsPart IsBroken place before after
StopsFrame place number before after (follow.Cut told) =
    (told ≡ number) × ReadsPart IsCut place before after × IsAtEnd after
StopsFrame place number before after follow.TooLong = ReadsAll place before after
StopsFrame place number before after follow.ReadFault = ReadsPart IsCut place before after
StopsFrame place number before after follow.NoMemory = ReadsPart IsCut place before after
StopsFrame place number before after stop = ⊥

-- the byte that begins a frame is read, or the end of the stream instead
abbrev pub ReadsFirst : ℕ → ℕ → Option (List ℕ) → Option (List ℕ) → Result Bool FollowStop → Type 0
ReadsFirst place number before after (Ok true) = Gives place before after (1 ∷ [])
ReadsFirst place number before after (Ok false) = Gives place before after end_bytes
ReadsFirst place number before after (Err stop) = StopsFrame place number before after stop

-- a frame is read, or the end of the stream instead
abbrev pub ReadsFrame : ℕ → ℕ → Option (List ℕ) → Option (List ℕ) → List ℕ → Result Bool FollowStop → Type 0
ReadsFrame place number before after payload (Ok true) =
    IsPayload payload × Gives place before after (frame_bytes payload)
ReadsFrame place number before after payload (Ok false) = Gives place before after end_bytes
ReadsFrame place number before after payload (Err stop) = StopsFrame place number before after stop

-- behind the end of a stream there is nothing, or what is there breaks it
abbrev pub EndsThere : {T : Type 0} → ℕ → Option (List ℕ) → Option (List ℕ) → Result T FollowStop → Type 0
EndsThere place before after (Ok x) = Keeps before after × IsAtEnd after
EndsThere place before after (Err (follow.Frame at)) = (at ≡ place) × Keeps before after × GoesOn after
EndsThere place before after (Err follow.ReadFault) = Keeps before after
EndsThere place before after (Err stop) = ⊥

-- ---- a frame that is held whole

-- bytes begin with the frame of a payload
pub record BeginsWithFrame (bytes payload : List ℕ) : Type 0 where
  pub allowed : IsPayload payload
  pub rest : List ℕ
  pub whole : frame_bytes payload ++ rest ≡ bytes

-- a reader holds the frame of a payload whole, as the next one, and a stream may have it
pub record HoldsFrame (reader : Reader) (payload : List ℕ) : Type 0 where
  pub begins : BeginsWithFrame reader.held payload
  pub within : length (frame_bytes payload) ≤ 268435456 - reader.place
