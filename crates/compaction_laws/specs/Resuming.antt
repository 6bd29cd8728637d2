-- A store after a checkpoint, opened again: its records lead to the state that was kept, and on to what came behind it.
use Rattle.std.specs.Prelude.{◌≡◌, ◌⊎◌, ℕ, ◌^◌, ◌<◌, ◌≤◌, IfSome, List, ◌++◌}
use Rattle.std.specs.List.{All}
use Rattle.flow_core.specs.Admitting.{IsAdmitted}
use Rattle.flow_core.specs.Driving.{templates}
use Rattle.flow_core.specs.Summaries.{summary}
use Rattle.flow_core.specs.declared.state.Core.{Core}
use Rattle.flow_disk.specs.Images.{Image}
use Rattle.flow_disk.specs.declared.disk.Slot.{Slot}
use Rattle.flow_model.specs.declared.transactions.Numbered.{Numbered}
use Rattle.flow_model.specs.declared.transactions.Transaction.{Transaction}
use Rattle.flow_session.specs.Histories.{IsHeaderOf, payloads, payloads_behind}
use Rattle.flow_session.specs.Refusing.{LeadsTo, BreaksAt, IsUnopened}
use Rattle.flow_txn.specs.Ranges.{TransactionFits}
use Rattle.machine.specs.States.{State}
use Rattle.machine.specs.Steps.{started}
use Rattle.machine_laws.specs.Viewed.{view}
use Rattle.machine_laws.specs.Keyed.{AreKeyed}
use Rattle.reopening_laws.specs.Codes.{HaveCodes}
use Rattle.reopening_laws.specs.Making.{MadeByCommands}
use Rattle.txn_log.specs.Stores.{Counts, store_of}
use Rattle.txn_log.specs.declared.header.Header.{Header}
use Rattle.txn_log.specs.declared.stops.LogStop.{LogStop}
use Rattle.txn_log.specs.declared.stops.LogStop.TheVariants.{StoreFault, NoMemory}
use Rattle.compaction_laws.specs.Checkpoints.{summary_of}
use Rattle.compaction_laws.specs.Compact.{IsRemade, IsCompact, IsMadeAnew}

-- a header is that of a checkpoint of a state whose live transactions are made again: it has the counts of the state,
-- and those are in range
pub record IsCheckpointOf (h : Header) (s : State) : Type 0 where
  pub counts : IsHeaderOf h (summary_of s)
  pub some_ : 1 ≤ h.queues
  pub limit : h.limit < 2 ^ 64
  pub anew : IsMadeAnew s
  pub fit : All (λ n. TransactionFits n.transaction) s.live

-- the payloads of the live transactions of a state, and those of transactions that were made since
abbrev pub records_since : State → List Transaction → List (List ℕ)
records_since s ts = payloads s.live ++ payloads_behind s.transactions ts

-- the kept records that a state of the engine has taken up stand before this one, and their roots before its root
abbrev pub IsBehindKept : Core → Numbered → Type 0
IsBehindKept c n = (c.kept_number < n.number) × IfSome (started n.transaction) (λ root. c.kept_root < root)

-- ---- laws

-- a state of the engine to which the records of a slot lead, whatever they are, is compact
abbrev pub OpenedAreCompact : Type 0
OpenedAreCompact =
    (h : Header) (bytes : List (List ℕ)) (c : Core) → 1 ≤ h.queues → LeadsTo h bytes c → IsCompact (view c)

-- so where it has the summary of a compact state, the machine sees it as that state
abbrev pub OpenedAreOne : Type 0
OpenedAreOne =
    (h : Header) (bytes : List (List ℕ)) (c : Core) (s : State) → 1 ≤ h.queues → LeadsTo h bytes c → IsCompact s
    → summary c ≡ summary_of s → view c ≡ s

-- in a state whose keys are the machine's, and whose outputs begin with a return code, a record that is made again is
-- admitted among the kept ones, where it stands behind those that were taken up
abbrev pub KeptAreAdmitted : Type 0
KeptAreAdmitted =
    (c : Core) (n : Numbered) → AreKeyed c → HaveCodes (templates c) → c.number ≡ c.kept → IsRemade (view c) n
    → IsBehindKept c n → IsAdmitted c n.number n.transaction

-- the live transactions of a history are in range, where its transactions are
abbrev pub LiveStayInRange : Type 0
LiveStayInRange =
    (s s' : State) (ts : List Transaction) → All (λ n. TransactionFits n.transaction) s.live → MadeByCommands s ts s'
    → All TransactionFits ts → All (λ n. TransactionFits n.transaction) s'.live

-- where a slot has the records of a checkpoint and of what commands made since, and leads to a state of the engine, the
-- machine sees that as the state to which the commands led
abbrev pub CheckpointsAreResumed : Type 0
CheckpointsAreResumed =
    (h : Header) (s s' : State) (ts : List Transaction) (c : Core) → IsCheckpointOf h s → MadeByCommands s ts s'
    → All TransactionFits ts → LeadsTo h (records_since s ts) c → view c ≡ s'

-- and no record breaks such a slot
abbrev pub CheckpointsReopen : Type 0
CheckpointsReopen =
    (h : Header) (s s' : State) (ts : List Transaction) (place : ℕ) → IsCheckpointOf h s → MadeByCommands s ts s'
    → All TransactionFits ts → BreaksAt h (records_since s ts) place → ⊥

-- so a store whose slot that counts has these records is opened again, unless a fault or want of memory comes
abbrev pub CheckpointedStoresReopen : Type 0
CheckpointedStoresReopen =
    (image : Image) (slot : Slot) (h : Header) (s s' : State) (ts : List Transaction) (end : ℕ) (stop : LogStop)
    → store_of image ≡ Counts slot h (records_since s ts) end → IsCheckpointOf h s → MadeByCommands s ts s'
    → All TransactionFits ts → IsUnopened image stop → (stop ≡ StoreFault) ⊎ (stop ≡ NoMemory)
