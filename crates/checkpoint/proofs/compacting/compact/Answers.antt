use Rattle.std.proofs.Common.{◌∙◌, ◌<◌, ap, arith, refl}
use Rattle.flow_disk.specs.Images.{bytes_in, opposite}
use Rattle.flow_disk.proofs.Runs.{weaker}
use Rattle.txn_log.specs.Records.{reach}
use Rattle.txn_log.specs.Stored.{Good, slot_state}
use Rattle.checkpoint.specs.Compacting.{MayBeCompacted, Turns}
use Rattle.checkpoint.specs.declared.writing.Written.{Written}
use Rattle.checkpoint.proofs.Moves.{compacted_at, may_be_at, ours_at, stays_at, if_no_memory}
use Rattle.checkpoint.proofs.compacting.compact.Goals as goal

pub write_generation-requires-clause-ours : goal.write_generation-requires-clause-ours
write_generation-requires-clause-ours g c told =
    let s = c.requires.stands told in
    ours_at c.args.log.now.slot c.other_slot.result (g.D.Disk.seen c.args.disk.now) s.header s.payloads c.args.log.now.end (c.other_slot.ensures ∙ ap opposite c.slot.ensures) s.counts

pub returns-in-Ok-clause-compacted : goal.returns-in-Ok-clause-compacted
returns-in-Ok-clause-compacted g c told =
    let d = g.D.Disk in
    let s = c.requires.stands told in
    let later : s.header.generation < c.args.header.now.generation = omega (arith, s.generation, c.requires.next) in
    let other = c.other_slot.ensures ∙ ap opposite c.slot.ensures in
    compacted_at c.args.log.now.slot (d.seen c.args.disk.now) s.header s.payloads c.args.log.now.end s.counts c.args.header.now (g.P.Payloads.left c.args.kept.now) later c.other_slot.result other (d.seen c.write_generation.new.disk) (c.in-Ok.ensures.made told)

pub returns-in-Ok-clause-any_moment : goal.returns-in-Ok-clause-any_moment
returns-in-Ok-clause-any_moment g c told only =
    let d = g.D.Disk in
    let s = c.requires.stands told in
    let later : s.header.generation < c.args.header.now.generation = omega (arith, s.generation, c.requires.next) in
    let other = c.other_slot.ensures ∙ ap opposite c.slot.ensures in
    weaker d.moment d.left_since d.images c.args.disk.now c.write_generation.new.disk
    (Turns c.other_slot.result (slot_state (bytes_in (d.seen c.args.disk.now) c.other_slot.result)) (Good c.args.header.now (g.P.Payloads.left c.args.kept.now) (reach 42 (g.P.Payloads.left c.args.kept.now))) (bytes_in (d.seen c.args.disk.now) (opposite c.other_slot.result)))
    (MayBeCompacted (opposite c.args.log.now.slot) c.args.header.now (g.P.Payloads.left c.args.kept.now) (d.seen c.args.disk.now))
    (c.write_generation.ensures.any_moment told only) (may_be_at c.args.log.now.slot (d.seen c.args.disk.now) s.header s.payloads c.args.log.now.end s.counts c.args.header.now (g.P.Payloads.left c.args.kept.now) later c.other_slot.result other)

-- what a read gives is one of the images
pub returns-in-Ok-clause-read : goal.returns-in-Ok-clause-read
returns-in-Ok-clause-read g c told only =
    let d = g.D.Disk in
    let s = c.requires.stands told in
    let later : s.header.generation < c.args.header.now.generation = omega (arith, s.generation, c.requires.next) in
    let other = c.other_slot.ensures ∙ ap opposite c.slot.ensures in
    let leaves = c.write_generation.ensures.any_moment told only in
    let each = leaves.each (d.seen c.write_generation.new.disk) (g.met.D.Disk.counts_now c.write_generation.new.disk (d.moment c.args.disk.now) (d.seen c.write_generation.new.disk) leaves.later (g.met.D.Disk.honest c.write_generation.new.disk told)) in
    may_be_at c.args.log.now.slot (d.seen c.args.disk.now) s.header s.payloads c.args.log.now.end s.counts c.args.header.now (g.P.Payloads.left c.args.kept.now) later c.other_slot.result other (d.seen c.write_generation.new.disk) each

pub returns-in-Err-NoMemory-clause-any_moment : goal.returns-in-Err-NoMemory-clause-any_moment
returns-in-Err-NoMemory-clause-any_moment g c told only =
    let d = g.D.Disk in
    let s = c.requires.stands told in
    let later : s.header.generation < c.args.header.now.generation = omega (arith, s.generation, c.requires.next) in
    let other = c.other_slot.ensures ∙ ap opposite c.slot.ensures in
    weaker d.moment d.left_since d.images c.args.disk.now c.write_generation.new.disk
    (Turns c.other_slot.result (slot_state (bytes_in (d.seen c.args.disk.now) c.other_slot.result)) (Good c.args.header.now (g.P.Payloads.left c.args.kept.now) (reach 42 (g.P.Payloads.left c.args.kept.now))) (bytes_in (d.seen c.args.disk.now) (opposite c.other_slot.result)))
    (MayBeCompacted (opposite c.args.log.now.slot) c.args.header.now (g.P.Payloads.left c.args.kept.now) (d.seen c.args.disk.now))
    (c.write_generation.ensures.any_moment told only) (may_be_at c.args.log.now.slot (d.seen c.args.disk.now) s.header s.payloads c.args.log.now.end s.counts c.args.header.now (g.P.Payloads.left c.args.kept.now) later c.other_slot.result other)

-- what a read gives is one of the images
pub returns-in-Err-NoMemory-clause-read : goal.returns-in-Err-NoMemory-clause-read
returns-in-Err-NoMemory-clause-read g c told only =
    let d = g.D.Disk in
    let s = c.requires.stands told in
    let later : s.header.generation < c.args.header.now.generation = omega (arith, s.generation, c.requires.next) in
    let other = c.other_slot.ensures ∙ ap opposite c.slot.ensures in
    let leaves = c.write_generation.ensures.any_moment told only in
    let each = leaves.each (d.seen c.write_generation.new.disk) (g.met.D.Disk.counts_now c.write_generation.new.disk (d.moment c.args.disk.now) (d.seen c.write_generation.new.disk) leaves.later (g.met.D.Disk.honest c.write_generation.new.disk told)) in
    may_be_at c.args.log.now.slot (d.seen c.args.disk.now) s.header s.payloads c.args.log.now.end s.counts c.args.header.now (g.P.Payloads.left c.args.kept.now) later c.other_slot.result other (d.seen c.write_generation.new.disk) each

pub returns-in-Err-StoreFault-clause-any_moment : goal.returns-in-Err-StoreFault-clause-any_moment
returns-in-Err-StoreFault-clause-any_moment g c told only =
    let d = g.D.Disk in
    let s = c.requires.stands told in
    let later : s.header.generation < c.args.header.now.generation = omega (arith, s.generation, c.requires.next) in
    let other = c.other_slot.ensures ∙ ap opposite c.slot.ensures in
    weaker d.moment d.left_since d.images c.args.disk.now c.write_generation.new.disk
    (Turns c.other_slot.result (slot_state (bytes_in (d.seen c.args.disk.now) c.other_slot.result)) (Good c.args.header.now (g.P.Payloads.left c.args.kept.now) (reach 42 (g.P.Payloads.left c.args.kept.now))) (bytes_in (d.seen c.args.disk.now) (opposite c.other_slot.result)))
    (MayBeCompacted (opposite c.args.log.now.slot) c.args.header.now (g.P.Payloads.left c.args.kept.now) (d.seen c.args.disk.now))
    (c.write_generation.ensures.any_moment told only) (may_be_at c.args.log.now.slot (d.seen c.args.disk.now) s.header s.payloads c.args.log.now.end s.counts c.args.header.now (g.P.Payloads.left c.args.kept.now) later c.other_slot.result other)

-- what a read gives is one of the images
pub returns-in-Err-StoreFault-clause-read : goal.returns-in-Err-StoreFault-clause-read
returns-in-Err-StoreFault-clause-read g c told only =
    let d = g.D.Disk in
    let s = c.requires.stands told in
    let later : s.header.generation < c.args.header.now.generation = omega (arith, s.generation, c.requires.next) in
    let other = c.other_slot.ensures ∙ ap opposite c.slot.ensures in
    let leaves = c.write_generation.ensures.any_moment told only in
    let each = leaves.each (d.seen c.write_generation.new.disk) (g.met.D.Disk.counts_now c.write_generation.new.disk (d.moment c.args.disk.now) (d.seen c.write_generation.new.disk) leaves.later (g.met.D.Disk.honest c.write_generation.new.disk told)) in
    may_be_at c.args.log.now.slot (d.seen c.args.disk.now) s.header s.payloads c.args.log.now.end s.counts c.args.header.now (g.P.Payloads.left c.args.kept.now) later c.other_slot.result other (d.seen c.write_generation.new.disk) each

-- the log wasn't touched, and the other slot is unmade
pub returns-in-Err-NoMemory-clause-stays : goal.returns-in-Err-NoMemory-clause-stays
returns-in-Err-NoMemory-clause-stays g c told only =
    let d = g.D.Disk in
    let s = c.requires.stands told in
    let other = c.other_slot.ensures ∙ ap opposite c.slot.ensures in
    record {
      logged = refl;
      same = stays_at c.args.log.now.slot c.other_slot.result (d.seen c.args.disk.now) s.header s.payloads c.args.log.now.end other s.counts (d.seen c.write_generation.new.disk) (if_no_memory Written c.in-Err-NoMemory.field-0 _ c.in-Err-NoMemory.field-0-is (c.in-Err-NoMemory.ensures.unmade told only));
      only = if_no_memory Written c.in-Err-NoMemory.field-0 _ c.in-Err-NoMemory.field-0-is c.in-Err-NoMemory.ensures.settled;
    }
