use Rattle.std.proofs.Common.{◌≡◌, ap, length, arith, rules}
use Rattle.txn_log.proofs.Batches.{count_few, bytes_few}
use Rattle.txn_log.proofs.batch.Batch.size.Goals as goal

pub returns-clause-some : goal.returns-clause-some
returns-clause-some c =
    let size : c.len.result ≡ length c.self.inside.bytes.items = search rules in
    omega (arith, size, count_few c.self.inside.bytes.items c.self.inside.count c.self.invariant, c.self.invariant.counted, ap length c.self.view_is)

pub returns-clause-most : goal.returns-clause-most
returns-clause-most c =
    let size : c.len.result ≡ length c.self.inside.bytes.items = search rules in
    omega (arith, size, bytes_few c.self.inside.bytes.items c.self.inside.count c.self.invariant, c.self.invariant.counted, ap length c.self.view_is)
