-- The laws: the states of a history that commands make stand in range, and so do its transactions.
use Rattle.std.specs.Prelude.{ℕ, ◌+◌, ◌≤◌, List}
use Rattle.flow_core.specs.declared.judging.Verdict.TheVariants.{Do}
use Rattle.flow_model.specs.declared.commands.Command.{Command}
use Rattle.flow_model.specs.declared.transactions.Transaction.{Transaction}
use Rattle.flow_txn.specs.Ranges.{IsInRange}
use Rattle.machine.specs.States.{State, blank}
use Rattle.machine.specs.Steps.{Steps}
use Rattle.machine.specs.Verdicts.{IsVerdict}
use Rattle.reopening_laws.specs.Making.{MadeByCommands}
use Rattle.reopening_laws.specs.Ranges.{IsWorded, StandsInRange}
use Rattle.range_laws.specs.Standing.{StaysInBounds}

-- a blank state with few queues and a small limit is within its bounds
abbrev pub BlanksAreInBounds : Type 0
BlanksAreInBounds = (queues limit : ℕ) → queues ≤ 16 → limit ≤ 10000000 → StaysInBounds (blank queues limit)

-- the transaction to which a command is judged keeps a state within its bounds
abbrev pub StepsStayInBounds : Type 0
StepsStayInBounds =
    (s : State) (command : Command) (t : Transaction) (s' : State) → StaysInBounds s → IsVerdict s command (Do t)
    → Steps s t s' → StaysInBounds s'

-- so each state to which commands lead from one within its bounds is within them: that after a front part of what a run
-- makes, too
abbrev pub HistoriesStayInBounds : Type 0
HistoriesStayInBounds =
    (s : State) (ts : List Transaction) (s' : State) → StaysInBounds s → MadeByCommands s ts s' → StaysInBounds s'

-- a state within its bounds stands in range
abbrev pub BoundedStatesStandInRange : Type 0
BoundedStatesStandInRange = (s : State) → StaysInBounds s → StandsInRange s

-- so does each state to which a history leads that commands make
abbrev pub HistoriesStandInRange : Type 0
HistoriesStandInRange =
    (queues limit : ℕ) (ts : List Transaction) (s : State) → queues ≤ 16 → limit ≤ 10000000
    → MadeByCommands (blank queues limit) ts s → StandsInRange s

-- and the transaction that a command with words in range makes there is in range, under the next number
abbrev pub HistoriesMakeInRange : Type 0
HistoriesMakeInRange =
    (queues limit : ℕ) (ts : List Transaction) (s : State) (command : Command) (t : Transaction) → queues ≤ 16
    → limit ≤ 10000000 → MadeByCommands (blank queues limit) ts s → IsWorded command → IsVerdict s command (Do t)
    → IsInRange (s.transactions + 1) t
