-- The places of the gates of records, one record at a time.
use Rattle.std.proofs.Common.{◌≡◌, ℕ, ◌+◌, List, [], ◌∷◌, ◌++◌, length, refl}
use Rattle.txn_log.specs.Records.{reach}

pub reach-push : (place : ℕ) (ps : List (List ℕ)) (p : List ℕ) → reach place (ps ++ p ∷ []) ≡ reach place ps + 5 + length p
reach-push place [] p = refl
reach-push place (q ∷ ps) p = reach-push (place + 5 + length q) ps p
