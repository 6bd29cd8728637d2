use Rattle.std.proofs.Common.{◌≡◌, ◌+◌, ◌*◌, ◌≤◌, length, take, drop}
use Rattle.flow_disk.specs.Images.{bytes_in}
use Rattle.txn_log.specs.Records.{reach}
use Rattle.checkpoint.specs.Writing.{Adds, KeepsShut, spelled}
use Rattle.checkpoint.proofs.writing.write_records.Given as goal

abbrev pub invariant-payloads : goal.invariant-payloads
invariant-payloads g l =
    let d = g.D.Disk in
    let p = g.P.Payloads in
    record {
      left : p.left l.kept ≡ drop l.records (p.left l.fn.kept);
      few : l.records ≤ length (p.left l.fn.kept);
      place : l.end ≡ reach 42 (take l.records (p.left l.fn.kept));
      bounded : l.end ≤ 42 + 2097157 * l.records;
      within : d.tells → l.end ≤ length (bytes_in (d.seen l.disk) l.slot);
      adds : d.tells → Adds l.slot 42 (spelled (take l.records (p.left l.fn.kept))) (d.seen l.fn.disk) (d.seen l.disk);
      keeps : KeepsShut d.moment d.left_since d.images l.slot 42 l.fn.disk l.disk;
      faults : d.faults l.disk ≡ d.faults l.fn.disk;
    }

abbrev pub decreases-payloads : goal.decreases-payloads
decreases-payloads g l = length (g.P.Payloads.left l.kept)
