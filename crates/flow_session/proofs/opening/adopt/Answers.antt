use Rattle.std.proofs.Common.{ap}
use Rattle.flow_core.specs.Summaries.{Summary}
use Rattle.worklist_laws.proofs.OpenAsked.{admitted_asks}
use Rattle.worklist_laws.proofs.Transactions.{listed_stays}
use Rattle.flow_session.proofs.opening.adopt.Goals as goal

pub returns-in-Ok-adopt-clause-right : goal.returns-in-Ok-adopt-clause-right
returns-in-Ok-adopt-clause-right c = λ was. listed_stays c.args.core.now c.adopt.new.self c.in-Ok.numbered.transaction (record {
  allowed = c.in-Ok-adopt.ensures.allowed;
  drives = c.in-Ok-adopt.ensures.drives;
  counts = c.in-Ok-adopt.ensures.counts;
  lives = (c.in-Ok.numbered.number, ap (λ (s : Summary). s.live) c.in-Ok-adopt.ensures.taken);
}) c.in-Ok-adopt.ensures.shelves (admitted_asks c.args.core.now c.in-Ok.numbered.number c.in-Ok.numbered.transaction c.in-Ok-adopt.ensures.admitted) was

pub returns-in-Ok-adopt-clause-admitted : goal.returns-in-Ok-adopt-clause-admitted
returns-in-Ok-adopt-clause-admitted c = record {
  number = c.in-Ok.numbered.number;
  transaction = c.in-Ok.numbered.transaction;
  spelled = c.in-Ok.ensures.read.0;
  in_range = c.in-Ok.ensures.read.1;
  admitted = c.in-Ok-adopt.ensures.admitted;
  allowed = c.in-Ok-adopt.ensures.allowed;
  adopted = record {
    drives = c.in-Ok-adopt.ensures.drives;
    taken = c.in-Ok-adopt.ensures.taken;
    kept_number = c.in-Ok-adopt.ensures.kept_number;
    kept_root = c.in-Ok-adopt.ensures.kept_root;
    clock = c.in-Ok-adopt.ensures.clock;
    store = c.in-Ok-adopt.ensures.store;
    keys = c.in-Ok-adopt.ensures.keys;
    exact = c.in-Ok-adopt.ensures.exact;
  };
  counts = c.in-Ok-adopt.ensures.counts;
  kept = c.in-Ok-adopt.ensures.kept;
}
