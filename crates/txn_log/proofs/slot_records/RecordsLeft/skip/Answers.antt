use Rattle.txn_log.proofs.Walks.{passed_over}
use Rattle.txn_log.proofs.slot_records.RecordsLeft.skip.Goals as goal

pub loop-preserved : goal.loop-preserved
loop-preserved c = passed_over c.next.result c.loop.counter c.args.self.now.left c.loop.self c.next.new.self c.loop.invariant c.next.ensures
