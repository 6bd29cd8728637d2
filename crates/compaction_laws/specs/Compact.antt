-- A state that its live transactions make again: as the records of a store under its counts, they lead to it.
use Rattle.std.specs.Prelude.{◌≡◌, ℕ, ◌-◌, ◌<◌, ◌≤◌, Some, None, IfSome, List, [], ◌∷◌, length, slice_get}
use Rattle.flow_core.specs.declared.judging.Verdict.TheVariants.{Do}
use Rattle.flow_model.specs.declared.commands.Command.{Command}
use Rattle.flow_model.specs.declared.transactions.Numbered.{Numbered}
use Rattle.flow_model.specs.declared.transactions.Transaction.{Transaction}
use Rattle.flow_model.specs.declared.transactions.Transaction.TheVariants.{Turn, Delete}
use Rattle.machine.specs.Scripts.{StepsAs}
use Rattle.machine.specs.States.{State, blank}
use Rattle.machine.specs.Steps.{deleted, started, last_root_by}
use Rattle.machine.specs.Verdicts.{IsVerdict}
use Rattle.recover_queue.specs.Queues.{queue as messages_of, count_of_root}

-- ---- a record in its place

-- a state with these counts: the transactions and the last root so far
abbrev pub counting : ℕ → ℕ → State → State
counting transactions last s = record s { transactions = transactions; last_root = last }

-- the message of a Turn stands at the front of its queue
abbrev pub IsAtFront : State → Transaction → Type 0
IsAtFront s (Turn queue message) = slice_get (messages_of s.queues queue) 0 ≡ Some message
IsAtFront s t = Unit {0}

-- A record is in its place: it is one of the transactions that the state counts and no Delete, a root that it starts is
-- one of those that are counted, and its message stands at the front of its queue.
pub record IsInPlace (s : State) (n : Numbered) : Type 0 where
  pub least : 1 ≤ n.number
  pub counted : n.number ≤ s.transactions
  pub stays : deleted n.transaction ≡ None
  pub root : last_root_by (started n.transaction) s.last_root ≡ s.last_root
  pub front : IsAtFront s n.transaction

-- It is made again: and a command is judged to it where only the transactions and roots before it are counted.
pub record IsRemade (s : State) (n : Numbered) : Type 0 where
  pub placed : IsInPlace s n
  pub last : ℕ
  pub command : Command
  pub judged : IsVerdict (counting (n.number - 1) last s) command (Do n.transaction)

-- ---- all records

-- records lead from a state to another, one after the other, and this holds of each where it stands
abbrev pub LeadBy : (State → Numbered → Type 0) → State → List Numbered → State → Type 0
LeadBy P s [] s' = s' ≡ s
LeadBy P s (n ∷ ns) s' = (mid : State) × P s n × StepsAs n.number s n.transaction mid × LeadBy P mid ns s'

-- the blank state under the counts of a state, as a checkpoint writes them into its header
abbrev pub counted_blank : State → State
counted_blank s = counting s.transactions s.last_root (blank (length s.queues) s.limit)

-- a state is compact: its live transactions alone lead to the very state, each in its place
abbrev pub IsCompact : State → Type 0
IsCompact s = LeadBy IsInPlace (counted_blank s) s.live s

-- the numbers of records rise, and so do those of the roots that they start, from a number and a root on
abbrev pub AreRising : ℕ → ℕ → List Numbered → Type 0
AreRising number root [] = Unit {0}
AreRising number root (n ∷ ns) =
    (number < n.number) × IfSome (started n.transaction) (λ other. root < other)
    × AreRising n.number (last_root_by (started n.transaction) root) ns

-- its live transactions are made again, one after the other, and rise
pub record IsMadeAnew (s : State) : Type 0 where
  pub remade : LeadBy IsRemade (counted_blank s) s.live s
  pub rising : AreRising 0 0 s.live

-- ---- a transaction more

-- what a transaction finds in a state: its message stands at the front of its queue, and of a root that it deletes none
-- is queued
abbrev pub IsReadyFor : State → Transaction → Type 0
IsReadyFor s (Turn queue message) = slice_get (messages_of s.queues queue) 0 ≡ Some message
IsReadyFor s (Delete root) = count_of_root root s.queues ≡ 0
IsReadyFor s t = Unit {0}
