-- Records that are added together, as the bytes that they will be.
use Rattle.std.specs.Prelude.{◌≡◌, ℕ, List, [], ◌∷◌, ◌++◌, length}
use Rattle.std.specs.List.{All}
use Rattle.txn_log.specs.Records.{IsPayload, open_records}
use Rattle.txn_log.specs.Stored.{listed}
use Rattle.txn_log.specs.Walks.{payloads_listed}

-- the payloads of records that are listed in bytes, where a closed gate stands behind these
unfoldable pub payloads_in : List ℕ → List (List ℕ)
payloads_in bytes = payloads_listed (listed 0 0 (bytes ++ 0 ∷ []))

-- bytes are this number of whole records with open gates
pub record AreRecords (bytes : List ℕ) (count : ℕ) : Type 0 where
  pub whole : open_records (payloads_in bytes) ≡ bytes
  pub allowed : All IsPayload (payloads_in bytes)
  pub counted : length (payloads_in bytes) ≡ count
