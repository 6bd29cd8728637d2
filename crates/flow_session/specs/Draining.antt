-- A DRAIN: messages are taken one after another, from the queues in turn.
use Rattle.std.specs.Prelude.{◌≡◌, ℕ, ◌+◌, ◌-◌, ◌^◌, ◌<◌, ◌≤◌, min, true, false, if◌then◌else◌, List, [], ◌∷◌, length}
use Rattle.recover_queue.specs.Queues.{is_quiet}
use Rattle.flow_model.specs.declared.instances.Message.{Message}
use Rattle.flow_model.specs.declared.transactions.Transaction.TheVariants.{Turn}
use Rattle.flow_core.specs.Answers.{has_message}
use Rattle.flow_core.specs.Verdicts.{IsFront}
use Rattle.flow_core.specs.declared.state.Core.{Core}
pub use Rattle.machine.specs.Scripts.{queues_before, queue_behind, turns_text, full_text}
use Rattle.machine_laws.specs.Applied.{Applied}
use Rattle.worklist_laws.specs.Shelved.{IsRightAndListed}
use Rattle.flow_session.specs.Leading.{LeadsBy}

-- of the queues that have a message, it is the first in turn from another one on
pub record IsNextQueue (c : Core) (from queue : ℕ) : Type 0 where
  pub has : has_message c queue ≡ true
  pub first : (other : ℕ) → has_message c other ≡ true
      → queues_before (length c.queues) from queue ≤ queues_before (length c.queues) from other

-- below the limit, the message at the front of a queue is taken, as a TURN: it leads from the state before it to the
-- one after it, and a right state whose worklists hold exactly its open manual items stays one
pub record TakesFront (old new : Core) (queue : ℕ) : Type 0 where
  pub message : Message
  pub front : IsFront old queue message
  pub room : old.number < old.limit
  pub applied : Applied old (Turn queue message) new
  pub leads : LeadsBy old (Turn queue message ∷ []) new
  pub right : IsRightAndListed old → IsRightAndListed new

-- this number of messages is taken, one after another; then the turn is at this queue
pub data TakesInTurn (c : Core) : ℕ → ℕ → Core → Type 0 where
  NoTurn : TakesInTurn c 0 1 c
  OneTurn : {n from queue : ℕ} {c' c'' : Core} → TakesInTurn c n from c' → IsNextQueue c' from queue
      → TakesFront c' c'' queue → TakesInTurn c (n + 1) (queue_behind (length c'.queues) queue) c''

-- messages are taken in turn until no queue has one, or the limit is met; the reply says which, and how many were taken
pub record IsDrained (old new : Core) (reply : List ℕ) : Type 0 where
  pub turns : ℕ
  pub turn : ℕ
  pub taken : TakesInTurn old turns turn new
  pub ended : is_quiet new.queues ≡ false → new.limit ≤ new.number
  pub told : reply
      ≡ (if is_quiet new.queues then turns_text (min turns (2 ^ 64 - 1))
      else full_text new.limit (min turns (2 ^ 64 - 1)))
