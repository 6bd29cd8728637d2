-- Records that are fit: none of them stops the opening of their store.
use Rattle.std.specs.Prelude.{ℕ, ◌+◌, List, [], ◌∷◌}
use Rattle.std.specs.List.{All}
use Rattle.flow_core.specs.Summaries.{Summary, next}
use Rattle.flow_core.specs.declared.state.Core.{Core}
use Rattle.flow_disk.specs.declared.disk.Slot.{Slot}
use Rattle.flow_disk.specs.Images.{Image}
use Rattle.flow_model.specs.declared.transactions.Transaction.{Transaction}
use Rattle.flow_txn.specs.Ranges.{IsInRange}
use Rattle.flow_txn.specs.Records.{record_bytes}
use Rattle.txn_log.specs.Stored.{InRange}
use Rattle.txn_log.specs.declared.header.Header.{Header}
use Rattle.flow_session.specs.Histories.{IsHeaderOf, IsLive, payloads}
use Rattle.flow_session.specs.Keeping.{Brings}
use Rattle.flow_session.specs.Refusing.{BreaksAt, IsBroken, IsUnfit, LeadsTo}

-- ---- images

-- no record of the slot that counts is unfit
abbrev pub HasFitRecords : Image → Type 0
HasFitRecords image = (slot : Slot) (place : ℕ) → IsBroken slot place image → ⊥

-- so it is of whatever a crash leaves now
abbrev pub AreFitNow : {J : Type 0} → (J → ℕ) → (J → ℕ → Image → Type 0) → J → Type 0
AreFitNow moment left_since journal =
    (image : Image) → left_since journal (moment journal) image → HasFitRecords image

-- ---- transactions

-- the record of a transaction that is in range is fit behind any records that give this summary
abbrev pub IsFitNext : Summary → Transaction → Type 0
IsFitNext s t =
    (h : Header) (bytes : List (List ℕ)) (c : Core) → InRange h → Brings h bytes s → LeadsTo h bytes c
    → IsInRange (s.transactions + 1) t → IsUnfit c (record_bytes (s.transactions + 1) t) → ⊥

-- the records of the live transactions are fit, alone under a header that says what the summary does
abbrev pub AreFitAlone : Summary → Type 0
AreFitAlone s =
    (h : Header) (place : ℕ) → InRange h → IsHeaderOf h s → All (IsLive s) s.live → BreaksAt h (payloads s.live) place
    → ⊥

-- the records of these transactions are fit, one after the other from this summary on, and so are at each point those of
-- the live ones alone
abbrev pub AreFitFrom : Summary → List Transaction → Type 0
AreFitFrom s [] = AreFitAlone s
AreFitFrom s (t ∷ ts) = AreFitAlone s × IsFitNext s t × AreFitFrom (next t s) ts
