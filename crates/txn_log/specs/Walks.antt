-- The records of a slot, as a walk over its bytes finds them.
use Rattle.std.specs.Prelude.{◌≡◌, ℕ, ◌<◌, ◌^◌, List, [], drop, length}
use Rattle.txn_log.specs.Stored.{Listed, Ends, Breaks, listed}

-- the payloads that are listed; none where a list breaks
abbrev pub payloads_listed : Listed → List (List ℕ)
payloads_listed (Ends payloads end) = payloads
payloads_listed (Breaks place) = []

-- the payloads of the records from a place of a slot on
abbrev pub payloads_from : ℕ → List ℕ → List (List ℕ)
payloads_from place bytes = payloads_listed (listed 0 place (drop place bytes))

-- the records from a place of a slot on end with a closed gate
pub record IsListedFrom (place : ℕ) (bytes : List ℕ) : Type 0 where
  pub end : ℕ
  pub listed_is : listed 0 place (drop place bytes) ≡ Ends (payloads_from place bytes) end
  pub short : length bytes < 2 ^ 63

-- the bytes of a slot with this number of records
pub record HoldsRecords (bytes : List ℕ) (count : ℕ) : Type 0 where
  pub all : IsListedFrom 42 bytes
  pub counted : length (payloads_from 42 bytes) ≡ count

-- where a walk over records stands: the place of the next gate, and the payloads that are left
pub record RecordWalk : Type 0 where
  pub place : ℕ
  pub left : List (List ℕ)
