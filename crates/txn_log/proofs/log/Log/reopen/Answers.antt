use Rattle.std.proofs.Common.{◌∙◌, refl, ap, sym}
use Rattle.txn_log.specs.Stores.{store_of}
use Rattle.txn_log.proofs.Openings.{stands_at}
use Rattle.txn_log.proofs.log.Log.reopen.Goals as goal

pub returns-clause-stands : goal.returns-clause-stands
returns-clause-stands g c told =
    stands_at c.on-log.result c.in_ok-slot.field-0.slot c.in_ok-slot.field-0.body.header.generation c.len-records.result c.in_ok-slot.field-0.body.end (g.D.Disk.seen c.chosen.new.disk) c.in_ok-slot.field-0.body.header c.in_ok-slot.field-0.body.records c.on-log.ensures
    (ap store_of c.chosen.ensures.seen ∙ c.in_ok-slot.ensures.chosen told) refl (sym c.len-records.ensures)
