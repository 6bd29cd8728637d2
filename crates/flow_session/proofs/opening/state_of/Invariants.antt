use Rattle.std.proofs.Common.{◌≡◌, ◌≤◌, List, ℕ, length}
use Rattle.worklist_laws.specs.Shelved.{IsRightAndListed}
use Rattle.flow_core.specs.Summaries.{summary}
use Rattle.flow_session.specs.Keeping.{Brings}
use Rattle.flow_session.specs.Refusing.{LeadsTo}
use Rattle.flow_session.proofs.Refusing.{Passed}
use Rattle.flow_session.proofs.opening.state_of.Given as goal

abbrev pub invariant-loop-record : goal.invariant-loop-record
invariant-loop-record l = record {
  front : List (List ℕ);
  passed : Passed l.opened.records front l.records;
  brings : Brings l.opened.header front (summary l.core);
  kept : l.core.kept ≡ l.opened.header.transactions;
  queues : (summary l.core).queues ≡ l.opened.header.queues;
  leads : LeadsTo l.opened.header front l.core;
  right : 1 ≤ l.opened.header.queues → IsRightAndListed l.core;
}

abbrev pub decreases-loop-record : goal.decreases-loop-record
decreases-loop-record l = length l.records.left
