-- That a record which a store admits is one that a command makes.
use Rattle.std.specs.Prelude.{◌↔◌, ℕ, ◌+◌, ◌<◌, ◌≤◌, List, [], ◌∷◌, ◌++◌}
use Rattle.compaction_laws.specs.Compact.{IsMadeAnew}
use Rattle.flow_core.specs.Admitting.{IsAdmitted}
use Rattle.flow_core.specs.Driving.{templates}
use Rattle.flow_core.specs.declared.judging.Verdict.TheVariants.{Do}
use Rattle.flow_core.specs.declared.state.Core.{Core}
use Rattle.flow_model.specs.declared.commands.Command.{Command}
use Rattle.flow_model.specs.declared.transactions.Transaction.{Transaction}
use Rattle.flow_txn.specs.Ranges.{IsInRange}
use Rattle.machine.specs.States as machine
use Rattle.machine.specs.Steps.{Steps}
use Rattle.machine.specs.Verdicts.{IsVerdict}
use Rattle.machine_laws.specs.Viewed.{view}
use Rattle.machine_laws.specs.Keyed.{AreKeyed}
use Rattle.reopening_laws.specs.Codes.{HaveCodes}
use Rattle.reopening_laws.specs.Making.{MadeByCommands}
use Rattle.admission_laws.specs.ApartLeaves.{HaveLeavesApart}

-- in a state whose keys are the machine's and whose leaves have names apart, a transaction in range that is admitted
-- under a number behind the last is the one to which the machine judges some command
abbrev pub AdmittedAreCommanded : Type 0
AdmittedAreCommanded =
    (c : Core) (number : ℕ) (t : Transaction) → AreKeyed c → HaveLeavesApart (templates c) → c.number < number
    → IsInRange number t → IsAdmitted c number t → (command : Command) × IsVerdict (view c) command (Do t)

-- in such a state, whose outputs begin with a return code as well, and which stands at the last of its kept records or
-- behind it, a transaction in range is admitted as the next record exactly where the machine judges some command to it
abbrev pub AdmittedAreExact : Type 0
AdmittedAreExact =
    (c : Core) (t : Transaction) → AreKeyed c → HaveCodes (templates c) → HaveLeavesApart (templates c)
    → c.kept ≤ c.number → IsInRange (c.number + 1) t
    → IsAdmitted c (c.number + 1) t ↔ ((command : Command) × IsVerdict (view c) command (Do t))

-- a history of commands goes on with a transaction that is admitted so: where commands lead to the state, from one
-- whose leaves have names apart, they make the step of that transaction as well
abbrev pub AdmittedAreMade : Type 0
AdmittedAreMade =
    (s : machine.State) (ts : List Transaction) (c : Core) (number : ℕ) (t : Transaction) (s' : machine.State)
    → HaveLeavesApart (machine.templates s) → MadeByCommands s ts (view c) → AreKeyed c → c.number < number
    → IsInRange number t → IsAdmitted c number t → Steps (view c) t s' → MadeByCommands s (ts ++ t ∷ []) s'

-- before any transaction the leaves have names apart, since there is no template
abbrev pub BlanksHaveLeavesApart : Type 0
BlanksHaveLeavesApart = (queues limit : ℕ) → HaveLeavesApart (machine.templates (machine.blank queues limit))

-- each step of the machine keeps them so
abbrev pub StepsKeepLeavesApart : Type 0
StepsKeepLeavesApart =
    (s : machine.State) (t : Transaction) (s' : machine.State) → Steps s t s'
    → HaveLeavesApart (machine.templates s) → HaveLeavesApart (machine.templates s')

-- and so does a history that commands make
abbrev pub HistoriesKeepLeavesApart : Type 0
HistoriesKeepLeavesApart =
    (s : machine.State) (ts : List Transaction) (s' : machine.State) → MadeByCommands s ts s'
    → HaveLeavesApart (machine.templates s) → HaveLeavesApart (machine.templates s')

-- and so they are in each state whose live transactions are made again, as each one is that a store of commands is
-- opened to
abbrev pub StatesAnewHaveLeavesApart : Type 0
StatesAnewHaveLeavesApart = (s : machine.State) → IsMadeAnew s → HaveLeavesApart (machine.templates s)
