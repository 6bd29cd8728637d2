use Rattle.std.proofs.Common.{arith}
use Rattle.flow_txn.proofs.KindFormats.{is_read, is_same, is_bad}
use Rattle.flow_txn.proofs.reading.decode.Goals as goal

pub returns-clause-read : goal.returns-clause-read
returns-clause-read c = is_read c.args.payload.now c.whole_of.result (λ i. omega (arith, c.type_inv.payload i)) c.whole_of.ensures

pub returns-clause-same : goal.returns-clause-same
returns-clause-same c = is_same c.args.payload.now c.whole_of.result c.whole_of.ensures

pub returns-clause-bad : goal.returns-clause-bad
returns-clause-bad c = is_bad c.args.payload.now c.whole_of.result c.whole_of.ensures
