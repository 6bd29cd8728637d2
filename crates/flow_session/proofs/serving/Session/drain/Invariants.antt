use Rattle.std.proofs.Common.{◌≡◌, ◌≤◌, ◌-◌}
use Rattle.worklist_laws.specs.Shelved.{IsRightAndListed}
use Rattle.flow_core.specs.Summaries.{summary}
use Rattle.flow_session.specs.Asking.{AreTurns}
use Rattle.flow_session.specs.Leading.{LeadsBy}
use Rattle.flow_session.specs.Serving.{Makes}
use Rattle.flow_session.proofs.Turns.{HasTaken}
use Rattle.flow_session.proofs.serving.Session.drain.Given as goal

abbrev pub invariant-loop-self : goal.invariant-loop-self
invariant-loop-self g l = record {
  open' : g.J.Journal.tells → g.J.Journal.holds l.journal (summary l.self.core);
  makes : Makes g.J.Journal.tells g.J.Journal.moment g.J.Journal.left_since l.initial.journal l.journal
      (summary l.initial.self.core)
      (λ ts. AreTurns l.initial.self.core ts l.queue l.self.core × LeadsBy l.initial.self.core ts l.self.core);
  taken : HasTaken l.initial.self.core l.self.core l.turns l.queue;
  some : 1 ≤ l.queue;
  right : IsRightAndListed l.initial.self.core → IsRightAndListed l.self.core;
  text : l.self.gathered ≡ l.initial.self.gathered;
  place : g.J.Journal.place l.journal ≡ g.J.Journal.place l.initial.journal;
  unfailed : g.J.Journal.faults l.journal ≡ g.J.Journal.faults l.initial.journal;
}

abbrev pub decreases-loop-self : goal.decreases-loop-self
decreases-loop-self g l = l.self.core.limit - l.self.core.number
