-- A stream as bytes: a front, a frame for each payload in order, and an end.
use Rattle.std.specs.Prelude.{◌≡◌, ℕ, ◌-◌, ◌^◌, List, [], ◌∷◌, ◌++◌, length, min, codes, Option}
use Rattle.std.specs.Int.{w32, w64, to_be_bytes}
use Rattle.std.specs.List.{flat_map}
use Rattle.std.specs.Io.KnownBytes.{Appends}
use Rattle.standby.specs.declared.frames.Front.{Front}

-- the magic, a byte with the queues, and eight bytes each with the limit and the number from which it is shipped
abbrev pub front_bytes : Front → List ℕ
front_bytes front = codes "FLOWSHP1" ++ front.queues ∷ to_be_bytes w64 front.limit ++ to_be_bytes w64 front.from

-- the length of a payload in four bytes; no store has a payload that is too long for them
abbrev pub length_bytes : List ℕ → List ℕ
length_bytes payload = to_be_bytes w32 (min (length payload) (2 ^ 32 - 1))

-- a byte 1, the length of a payload, and the payload
abbrev pub frame_bytes : List ℕ → List ℕ
frame_bytes payload = 1 ∷ length_bytes payload ++ payload

-- a byte 0
abbrev pub end_bytes : List ℕ
end_bytes = 0 ∷ []

-- what stands behind the front: a frame for each payload in order, and the end
abbrev pub frames_bytes : List (List ℕ) → List ℕ
frames_bytes payloads = flat_map frame_bytes payloads ++ end_bytes

-- a stream of a front and of payloads
abbrev pub stream_bytes : Front → List (List ℕ) → List ℕ
stream_bytes front payloads = front_bytes front ++ frames_bytes payloads

-- a front part of a text stands behind what a sink held
pub record PutsPart (old new : Option (List ℕ)) (text : List ℕ) : Type 0 where
  pub put : List ℕ
  pub rest : List ℕ
  pub cut : put ++ rest ≡ text
  pub appended : Appends old new put

-- so much of a text stands behind what a sink held that with a piece and with what is left it is whole
pub record IsUnderWay (old new : Option (List ℕ)) (piece left text : List ℕ) : Type 0 where
  pub put : List ℕ
  pub whole : put ++ piece ++ left ≡ text
  pub appended : Appends old new put
