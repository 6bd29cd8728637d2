use Rattle.flow_txn.proofs.Sizes.{is_short}
use Rattle.flow_txn.proofs.writing.encode.Goals as goal

pub returns-clause-size : goal.returns-clause-size
returns-clause-size c = is_short c.record_of.result c.args.number c.args.t.now c.record_of.ensures
