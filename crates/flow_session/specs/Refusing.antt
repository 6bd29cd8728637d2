-- When a store isn't opened: as its slots say, or because of a record of the slot that counts.
use Rattle.std.specs.Prelude.{◌≡◌, ◌≢◌, ◌⊎◌, ℕ, List, [], ◌∷◌, ◌++◌}
use Rattle.flow_disk.specs.declared.disk.Slot.{Slot}
use Rattle.flow_disk.specs.Images.{Image}
use Rattle.flow_model.specs.declared.transactions.Transaction.{Transaction}
use Rattle.flow_txn.specs.Ranges.{IsInRange}
use Rattle.flow_txn.specs.Records.{record_bytes}
use Rattle.txn_log.specs.declared.header.Header.{Header}
use Rattle.txn_log.specs.declared.stops.LogStop.{LogStop}
use Rattle.txn_log.specs.declared.stops.LogStop.TheVariants as log
use Rattle.txn_log.specs.Opening.{IsVerdict}
use Rattle.txn_log.specs.Records.{reach}
use Rattle.txn_log.specs.Stores.{Counts, store_of}
use Rattle.flow_core.specs.Admitting.{IsAdmitted, IsRefused}
use Rattle.flow_core.specs.Allowing.{IsAllowed, IsBlank, CountsRoot}
use Rattle.flow_core.specs.Summaries.{summary}
use Rattle.flow_core.specs.declared.state.Core.{Core}
use Rattle.machine_laws.specs.Applied.{Adopted}
use Rattle.flow_session.specs.Histories.{under}

-- ---- records that are admitted

-- a state under a header, of which no record is taken up
pub record Begins (h : Header) (c : Core) : Type 0 where
  pub blank : IsBlank c
  pub counts : summary c ≡ under h
  pub kept : c.kept ≡ h.transactions
  pub none_taken : (c.kept_number ≡ 0) × (c.kept_root ≡ 0)

-- a payload is the record of a transaction in range that is admitted, and adopted under its number
pub record AdmitsOne (old : Core) (payload : List ℕ) (new : Core) : Type 0 where
  pub number : ℕ
  pub transaction : Transaction
  pub spelled : record_bytes number transaction ≡ payload
  pub in_range : IsInRange number transaction
  pub admitted : IsAdmitted old number transaction
  pub allowed : IsAllowed old transaction
  pub adopted : Adopted old number transaction new
  pub counts : CountsRoot old transaction new
  pub kept : new.kept ≡ old.kept

-- records with these payloads are admitted, one after the other
pub data Admits (c : Core) : List (List ℕ) → Core → Type 0 where
  NoRecord : Admits c [] c
  OneRecord : {payloads : List (List ℕ)} {payload : List ℕ} {c' c'' : Core} → Admits c payloads c'
      → AdmitsOne c' payload c'' → Admits c (payloads ++ payload ∷ []) c''

-- a slot with this header and these payloads leads to a state: each record is admitted
abbrev pub LeadsTo : Header → List (List ℕ) → Core → Type 0
LeadsTo h payloads c = (first : Core) × Begins h first × Admits first payloads c

-- an image is opened to a state of the engine: its slot that counts leads there
pub record IsOpenedTo (image : Image) (c : Core) : Type 0 where
  pub slot : Slot
  pub header : Header
  pub payloads : List (List ℕ)
  pub end : ℕ
  pub counts : store_of image ≡ Counts slot header payloads end
  pub leads : LeadsTo header payloads c

-- ---- a record that isn't

-- a payload is the record of no transaction, or of one that isn't admitted
abbrev pub IsUnfit : Core → List ℕ → Type 0
IsUnfit c payload =
    ((number : ℕ) (t : Transaction) → IsInRange number t → record_bytes number t ≢ payload)
    ⊎ ((number : ℕ) × (t : Transaction) × IsInRange number t × (record_bytes number t ≡ payload) × IsRefused c number t)

-- of records with these payloads those up to one are admitted, and that one, whose gate stands there, is unfit
pub record BreaksAt (h : Header) (payloads : List (List ℕ)) (place : ℕ) : Type 0 where
  pub front : List (List ℕ)
  pub payload : List ℕ
  pub behind : List (List ℕ)
  pub split : payloads ≡ front ++ payload ∷ behind
  pub gate : place ≡ reach 42 front
  pub state : Core
  pub leads : LeadsTo h front state
  pub unfit : IsUnfit state payload

-- the slot that counts has a record that breaks it at this place
pub record IsBroken (slot : Slot) (place : ℕ) (image : Image) : Type 0 where
  pub header : Header
  pub payloads : List (List ℕ)
  pub end : ℕ
  pub counts : store_of image ≡ Counts slot header payloads end
  pub breaks : BreaksAt header payloads place

-- ---- why a store isn't opened

-- The slots say so; or it is damaged at the gate of a record that is unfit, where those before are admitted. A fault
-- and want of memory say nothing of it.
abbrev pub IsUnopened : Image → LogStop → Type 0
IsUnopened image (log.Damaged slot place) =
    IsVerdict (log.Damaged slot place) (store_of image) ⊎ IsBroken slot place image
IsUnopened image log.StoreFault = Unit {0}
IsUnopened image log.NoMemory = Unit {0}
IsUnopened image stop = IsVerdict stop (store_of image)

-- ---- the steps of opening

-- a record isn't taken up: the slot is damaged at its place, since it is unfit; or there is no memory
abbrev pub StopsAt : Slot → ℕ → Core → List ℕ → LogStop → Type 0
StopsAt slot place c payload (log.Damaged at_slot at_place) = (at_slot ≡ slot) × (at_place ≡ place) × IsUnfit c payload
StopsAt slot place c payload log.NoMemory = Unit {0}
StopsAt slot place c payload stop = ⊥

-- the records of a slot aren't taken up: it is damaged at the gate of one that is unfit; or there is no memory
abbrev pub StopsIn : Slot → Header → List (List ℕ) → LogStop → Type 0
StopsIn slot h payloads (log.Damaged at_slot place) = (at_slot ≡ slot) × BreaksAt h payloads place
StopsIn slot h payloads log.NoMemory = Unit {0}
StopsIn slot h payloads stop = ⊥
