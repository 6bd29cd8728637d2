-- That a record which the engine wrote is admitted when its store is opened again.
use Rattle.std.specs.Prelude.{◌≡◌, ◌⊎◌, ℕ, ◌+◌, ◌^◌, ◌<◌, ◌≤◌, List}
use Rattle.std.specs.List.{All}
use Rattle.flow_core.specs.Admitting.{IsAdmitted}
use Rattle.flow_core.specs.Driving.{templates}
use Rattle.flow_core.specs.declared.judging.Verdict.TheVariants.{Do}
use Rattle.flow_core.specs.declared.state.Core.{Core}
use Rattle.flow_disk.specs.Images.{Image}
use Rattle.flow_disk.specs.declared.disk.Slot.{Slot}
use Rattle.flow_model.specs.declared.commands.Command.{Command}
use Rattle.flow_model.specs.declared.transactions.Transaction.{Transaction}
use Rattle.flow_session.specs.Histories.{payloads_behind}
use Rattle.flow_session.specs.Refusing.{LeadsTo, BreaksAt, IsUnopened}
use Rattle.flow_session.specs.Replaying.{blank_under}
use Rattle.flow_txn.specs.Ranges.{TransactionFits}
use Rattle.machine.specs.States as machine
use Rattle.machine.specs.Verdicts.{IsVerdict}
use Rattle.machine_laws.specs.Viewed.{view}
use Rattle.machine_laws.specs.Keyed.{AreKeyed}
use Rattle.txn_log.specs.Stores.{Counts, store_of}
use Rattle.txn_log.specs.declared.header.Header.{Header}
use Rattle.txn_log.specs.declared.stops.LogStop.{LogStop}
use Rattle.txn_log.specs.declared.stops.LogStop.TheVariants.{StoreFault, NoMemory}
use Rattle.reopening_laws.specs.Codes.{HaveCodes}
use Rattle.reopening_laws.specs.Making.{MadeByCommands}

-- in a state whose keys are the machine's, whose outputs begin with a return code, and which stands at the last of its
-- kept records or behind it, the record of the transaction to which the machine judges a command is admitted as the
-- next one
abbrev pub CommandsAreAdmitted : Type 0
CommandsAreAdmitted =
    (c : Core) (command : Command) (t : Transaction) → AreKeyed c → HaveCodes (templates c) → c.kept ≤ c.number
    → IsVerdict (view c) command (Do t) → IsAdmitted c (c.number + 1) t

-- of a slot from which nothing was taken out, whose records are those of a history that commands made in range, none is
-- unfit
abbrev pub HistoriesReopen : Type 0
HistoriesReopen =
    (h : Header) (ts : List Transaction) (s : machine.State) (place : ℕ) → h.transactions ≡ 0 → 1 ≤ h.queues
    → h.limit < 2 ^ 64 → MadeByCommands (blank_under h) ts s → All TransactionFits ts
    → BreaksAt h (payloads_behind 0 ts) place → ⊥

-- and where such a slot leads to a state of the engine, the machine sees it as the state that the commands made
abbrev pub HistoriesAreResumed : Type 0
HistoriesAreResumed =
    (h : Header) (ts : List Transaction) (s : machine.State) (c : Core) → h.transactions ≡ 0 → 1 ≤ h.queues
    → h.limit < 2 ^ 64 → MadeByCommands (blank_under h) ts s → All TransactionFits ts
    → LeadsTo h (payloads_behind 0 ts) c → view c ≡ s

-- a store whose slot that counts has these records, and from which nothing was taken out, is opened again, unless a
-- fault or want of memory comes
abbrev pub StoresReopen : Type 0
StoresReopen =
    (image : Image) (slot : Slot) (h : Header) (ts : List Transaction) (end : ℕ) (s : machine.State) (stop : LogStop)
    → store_of image ≡ Counts slot h (payloads_behind 0 ts) end → h.transactions ≡ 0
    → MadeByCommands (blank_under h) ts s → All TransactionFits ts → IsUnopened image stop
    → (stop ≡ StoreFault) ⊎ (stop ≡ NoMemory)
