-- That the live part of a history leads to the very state of the history.
use Rattle.std.specs.Prelude.{◌≡◌, ℕ, List, length}
use Rattle.flow_core.specs.Summaries.{Summary}
use Rattle.flow_core.specs.declared.judging.Verdict.TheVariants.{Do}
use Rattle.flow_model.specs.declared.commands.Command.{Command}
use Rattle.flow_model.specs.declared.commands.Query.{Query}
use Rattle.flow_model.specs.declared.transactions.Transaction.{Transaction}
use Rattle.machine.specs.Answers.{IsAnswer}
use Rattle.machine.specs.Scripts.{StateOf}
use Rattle.machine.specs.States.{State, blank}
use Rattle.machine.specs.Steps.{Steps}
use Rattle.machine.specs.Verdicts.{IsVerdict}
use Rattle.reopening_laws.specs.Making.{MadeByCommands}
use Rattle.compaction_laws.specs.Compact.{counting, counted_blank, IsCompact, IsMadeAnew, IsReadyFor}

-- the summary of a state: its counts, and its live transactions under their numbers
abbrev pub summary_of : State → Summary
summary_of s = record {
  queues = length s.queues;
  limit = s.limit;
  transactions = s.transactions;
  roots = s.last_root;
  live = s.live;
}

-- ---- which states are compact

-- a blank state under any counts, as that of a new store, and of one from which all was taken out
abbrev pub BlanksAreMadeAnew : Type 0
BlanksAreMadeAnew =
    (queues limit transactions last : ℕ) → IsMadeAnew (counting transactions last (blank queues limit))

-- a state whose live transactions are made again is compact
abbrev pub RemadeAreCompact : Type 0
RemadeAreCompact = (s : State) → IsMadeAnew s → IsCompact s

-- a step keeps a state compact that is ready for its transaction
abbrev pub StepsStayCompact : Type 0
StepsStayCompact = (s s' : State) (t : Transaction) → IsCompact s → IsReadyFor s t → Steps s t s' → IsCompact s'

-- where a command is judged to a transaction, the state is ready for it
abbrev pub VerdictsAreReady : Type 0
VerdictsAreReady = (s : State) (command : Command) (t : Transaction) → IsVerdict s command (Do t) → IsReadyFor s t

-- and after the step the live transactions are made again
abbrev pub VerdictsMakeAnew : Type 0
VerdictsMakeAnew =
    (s s' : State) (command : Command) (t : Transaction) → IsMadeAnew s → IsVerdict s command (Do t) → Steps s t s'
    → IsMadeAnew s'

-- so they are after transactions that commands make, one after the other
abbrev pub HistoriesMakeAnew : Type 0
HistoriesMakeAnew = (s s' : State) (ts : List Transaction) → IsMadeAnew s → MadeByCommands s ts s' → IsMadeAnew s'

-- and commands, one after the other, keep a state compact
abbrev pub HistoriesStayCompact : Type 0
HistoriesStayCompact = (s s' : State) (ts : List Transaction) → IsCompact s → MadeByCommands s ts s' → IsCompact s'

-- ---- what their live transactions lead to

-- the live transactions of a history that commands made lead, under its counts, to the state of the history
abbrev pub LiveMakeTheState : Type 0
LiveMakeTheState =
    (queues limit : ℕ) (ts : List Transaction) (s : State) → MadeByCommands (blank queues limit) ts s
    → StateOf (counted_blank s) s.live s

-- those of a compact state lead to no other one
abbrev pub LiveMakeOneState : Type 0
LiveMakeOneState = (s s' : State) → IsCompact s → StateOf (counted_blank s) s.live s' → s' ≡ s

-- so a summary is that of one compact state
abbrev pub CompactStatesAreOne : Type 0
CompactStatesAreOne = (s s' : State) → IsCompact s → IsCompact s' → summary_of s' ≡ summary_of s → s' ≡ s

-- and in the state to which they lead, a query has the answers that it has in the state itself
abbrev pub AnswersStay : Type 0
AnswersStay =
    (s s' : State) (query : Query) (reply : List ℕ) → IsCompact s → StateOf (counted_blank s) s.live s'
    → IsAnswer s query reply → IsAnswer s' query reply
