-- The state of a store: its records, one after the other, are steps of the machine.
use Rattle.std.specs.Prelude.{◌≡◌, ℕ, List}
use Rattle.flow_core.specs.declared.state.Core.{Core}
use Rattle.flow_disk.specs.Images.{Image}
use Rattle.flow_disk.specs.declared.disk.Slot.{Slot}
use Rattle.flow_model.specs.declared.transactions.Numbered.{Numbered}
use Rattle.machine.specs.States.{State, blank}
use Rattle.machine.specs.Scripts.{StateOf}
use Rattle.machine_laws.specs.Viewed.{view}
use Rattle.machine_laws.specs.Keyed.{AreKeyed}
use Rattle.txn_log.specs.Stores.{Counts, store_of}
use Rattle.txn_log.specs.declared.header.Header.{Header}
use Rattle.flow_session.specs.Histories.{payloads}

-- the state under a header, before its records
abbrev pub blank_under : Header → State
blank_under h = record (blank h.queues h.limit) { transactions = h.transactions; last_root = h.roots }

-- The slot that counts has records that lead, one after the other, from the state under its header to this state, whose
-- keys are those of its live STARTs.
pub record Replays (image : Image) (c : Core) : Type 0 where
  pub slot : Slot
  pub header : Header
  pub records : List Numbered
  pub end : ℕ
  pub counts : store_of image ≡ Counts slot header (payloads records) end
  pub state : StateOf (blank_under header) records (view c)
  pub keyed : AreKeyed c
