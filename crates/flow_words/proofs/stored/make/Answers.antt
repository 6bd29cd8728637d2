use Rattle.std.proofs.Common.{inl, rules}
use Rattle.txn_log.specs.declared.log.Log.{Log}
use Rattle.flow_words.proofs.Crashes.{never_done, stands_new}
use Rattle.flow_words.proofs.EndingLemmas.{open_cause}
use Rattle.flow_words.proofs.stored.make.Goals as goal

pub returns-in-Ok-clause-store : goal.returns-in-Ok-clause-store
returns-in-Ok-clause-store g c told only = record {
  any_moment = c.in-Ok.ensures.any_moment told only;
  made = λ done image left. rw (c.in-Ok.ensures.durable image left) (stands_new c.args.settings.queues c.args.settings.limit (g.D.Disk.seen c.make.new.disk) (c.in-Ok.ensures.made told));
}

pub returns-in-Err-clause-cause : goal.returns-in-Err-clause-cause
returns-in-Err-clause-cause g c read read' = c.refuse.ensures.cause read read' (g.D.Disk.faults c.args.disk.now) (g.D.Disk.faults c.make.new.disk) (open_cause Log (g.D.Disk.faults c.args.disk.now) (g.D.Disk.faults c.make.new.disk) c.in-Err.stop c.in-Err.ensures.cause)

pub returns-in-Ok-clause-cause : goal.returns-in-Ok-clause-cause
returns-in-Ok-clause-cause g c read read' = c.print_answer.ensures.cause read read' (g.D.Disk.faults c.args.disk.now) (g.D.Disk.faults c.make.new.disk)

pub returns-in-Ok-clause-prints : goal.returns-in-Ok-clause-prints
returns-in-Ok-clause-prints g c = inl (record {
  stands = λ told image left. rw (c.in-Ok.ensures.durable image left) (stands_new c.args.settings.queues c.args.settings.limit (g.D.Disk.seen c.make.new.disk) (c.in-Ok.ensures.made told));
  printed = search rules;
})

pub returns-in-Err-clause-store : goal.returns-in-Err-clause-store
returns-in-Err-clause-store g c told only = record {
  any_moment = c.in-Err.ensures.any_moment told only;
  made = λ done. absurd (never_done c.refuse.result c.refuse.ensures.fails done);
}
