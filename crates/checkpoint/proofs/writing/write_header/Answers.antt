use Rattle.checkpoint.proofs.Writes.{keeps_wrote}
use Rattle.checkpoint.proofs.writing.write_header.Goals as goal

pub returns-in_err-write_at-clause-keeps : goal.returns-in_err-write_at-clause-keeps
returns-in_err-write_at-clause-keeps g c =
    let d = g.D.Disk in
    keeps_wrote d.moment d.left_since d.images c.args.slot c.args.from _ c.args.disk.now c.write_at.new.self (g.met.D.Disk.only_now c.args.disk.now) c.write_at.ensures.crash c.write_at.ensures.time

pub returns-clause-keeps : goal.returns-clause-keeps
returns-clause-keeps g c =
    let d = g.D.Disk in
    keeps_wrote d.moment d.left_since d.images c.args.slot c.args.from _ c.args.disk.now c.write_at.new.self (g.met.D.Disk.only_now c.args.disk.now) c.write_at.ensures.crash c.write_at.ensures.time
