-- The turns of a DRAIN, one after the other, are turns of the machine.
use Rattle.std.proofs.Common.{ℕ, List}
use Rattle.core_laws.specs.RightStates.{IsRightCore}
use Rattle.flow_core.specs.declared.state.Core.{Core}
use Rattle.flow_model.specs.declared.transactions.Transaction.TheVariants.{Turn}
use Rattle.machine.specs.Scripts as machine
use Rattle.machine_laws.specs.Viewed.{view}
use Rattle.flow_session.proofs.Leading.{one_step}
use Rattle.flow_session.specs.Draining.{TakesInTurn, NoTurn, OneTurn, IsNextQueue, IsDrained}

-- the queue that is next is next for the machine
next_seen : (c : Core) (from queue : ℕ) → IsNextQueue c from queue → machine.IsNextQueue (view c) from queue
next_seen c from queue next = record { has = next.has; first = next.first }

-- turns of a right state are turns of the machine, and leave it right
turns_seen : (c : Core) (n from : ℕ) (c' : Core) → TakesInTurn c n from c' → IsRightCore c
    → machine.TakesInTurn (view c) n from (view c') × IsRightCore c'
turns_seen c _ _ _ NoTurn right = (machine.NoTurn, right)
turns_seen c _ _ _ (OneTurn {n} {from} {queue} {c'} {c''} takes next front) right =
    let before = turns_seen c n from c' takes right in (
      machine.OneTurn before.0 (next_seen c' from queue next)
          (record {
            message = front.message;
            front = front.front;
            room = front.room;
            steps = one_step (view c') (Turn queue front.message) (view c'') (front.leads.steps before.1);
          }),
      front.leads.right before.1,
    )

-- a DRAIN of a right state is one of the machine
pub drain_seen : (c c' : Core) (reply : List ℕ) → IsDrained c c' reply → IsRightCore c
    → machine.IsDrained (view c) (view c') reply
drain_seen c c' reply drained right = record {
  turns = drained.turns;
  turn = drained.turn;
  taken = (turns_seen c drained.turns drained.turn c' drained.taken right).0;
  ended = drained.ended;
  told = drained.told;
}
