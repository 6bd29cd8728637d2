-- What the bytes at the front of a stream say to a store.
use Rattle.std.specs.Prelude.{◌≡◌, ℕ, ◌<◌, ◌≤◌, ◌⊎◌, List, length, codes, Result, Ok, Err}
use Rattle.std.specs.Io.{StartsWith}
use Rattle.flow_core.specs.Summaries.{Summary}
use Rattle.standby.specs.declared.frames.Front.{Front}
use Rattle.standby.specs.declared.stops.FollowStop.{FollowStop}
use Rattle.standby.specs.declared.stops.FollowStop.TheVariants as follow
use Rattle.standby.specs.Streams.{front_bytes}

-- the bytes with which each stream begins
abbrev pub magic : List ℕ
magic = codes "FLOWSHP1"

-- bytes begin with the magic, or are the front of it
abbrev pub Agrees : List ℕ → Type 0
Agrees bytes = StartsWith bytes magic ⊎ StartsWith magic bytes

-- a stream is of a store with the queues and the limit of this one
abbrev pub IsAlike : Summary → Front → Type 0
IsAlike store front = (front.queues ≡ store.queues) × (front.limit ≡ store.limit)

-- The bytes at the front of a stream, which are the first 25 or all that there are, are judged for a store: by the
-- first of `Frame`, `Cut`, `Other` and `Gap` that holds.
abbrev pub FrontJudged : Summary → List ℕ → Result Front FollowStop → Type 0
FrontJudged store bytes (Ok front) =
    (bytes ≡ front_bytes front) × IsAlike store front × (front.from ≤ store.transactions)
FrontJudged store bytes (Err (follow.Frame place)) = (place ≡ 0) × (Agrees bytes → ⊥)
FrontJudged store bytes (Err (follow.Cut number)) =
    (number ≡ store.transactions) × Agrees bytes × (length bytes ≡ 25 → ⊥)
FrontJudged store bytes (Err follow.Other) = (front : Front) × (bytes ≡ front_bytes front) × (IsAlike store front → ⊥)
FrontJudged store bytes (Err (follow.Gap number)) =
    (number ≡ store.transactions)
    × ((front : Front) × (bytes ≡ front_bytes front) × IsAlike store front × (store.transactions < front.from))
FrontJudged store bytes (Err stop) = ⊥
