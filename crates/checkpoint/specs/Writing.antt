-- What images keep, and what a slot gets, while a body is written behind its closed gate.
use Rattle.std.specs.Prelude.{◌≡◌, ℕ, ◌+◌, ◌*◌, ◌≤◌, List, [], ◌∷◌, ◌++◌, length}
use Rattle.std.specs.Int.{w32, to_be_bytes}
use Rattle.flow_disk.specs.declared.disk.Slot.{Slot}
use Rattle.flow_disk.specs.Images.{Image, bytes_in, opposite}
use Rattle.flow_disk.specs.Moments.{LeavesOnly}
use Rattle.txn_log.specs.Records.{reach}
use Rattle.txn_log.specs.Steps.{Begins, IsShut}
use Rattle.checkpoint.specs.declared.writing.Written.{Written}

-- a record with an open gate
abbrev pub record_text : List ℕ → List ℕ
record_text payload = 1 ∷ (to_be_bytes w32 (length payload) ++ payload)

-- records with open gates, one behind the other
abbrev pub spelled : List (List ℕ) → List ℕ
spelled [] = []
spelled (payload ∷ payloads) = record_text payload ++ spelled payloads

-- so many records were written, and the place behind them is where they reach to; none is longer than a record may be
pub record IsWritten (payloads : List (List ℕ)) (made : Written) : Type 0 where
  pub records : made.records ≡ length payloads
  pub end : made.end ≡ reach 42 payloads
  pub small : made.end ≤ 42 + 2097157 * made.records

-- what begins with so many bytes goes on with this piece behind them, and the other slot is as it was
abbrev pub Adds : Slot → ℕ → List ℕ → Image → Image → Type 0
Adds slot at piece old new = (front there : List ℕ) → length front ≡ at → Begins slot front there old
    → Begins slot (front ++ piece) there new

-- the gate is closed as between the first and the second step of a new slot, and the other slot has these bytes
pub record ShutBeside (slot : Slot) (from : ℕ) (there : List ℕ) (image : Image) : Type 0 where
  pub shut : IsShut slot from image
  pub other : bytes_in image (opposite slot) ≡ there

-- each image since old has P, and so has each image of now
pub record Keeps {D : Type 0} (moment : D → ℕ) (left_since : D → ℕ → Image → Type 0) (images : D → Image → Type 0)
    (old new : D) (P : Image → Type 0) : Type 0 where
  pub leaves : LeavesOnly moment left_since old new P
  pub now : (c : Image) → images new c → P c

-- writes from a place on keep a gate closed whose front ends there or before
abbrev pub KeepsShut : {D : Type 0} → (D → ℕ) → (D → ℕ → Image → Type 0) → (D → Image → Type 0) → Slot → ℕ → D → D
    → Type 0
KeepsShut moment left_since images slot at old new = (from : ℕ) (there : List ℕ) → from ≤ at
    → ((c : Image) → images old c → ShutBeside slot from there c)
    → Keeps moment left_since images old new (ShutBeside slot from there)
