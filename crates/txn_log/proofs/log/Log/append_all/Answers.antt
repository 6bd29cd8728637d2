use Rattle.std.proofs.Common.{◌≡◌, ◌++◌, ◌+◌, ◌∙◌, ap, sym, length, ℕ, length-append}
use Rattle.flow_disk.proofs.Runs.{weaker}
use Rattle.txn_log.specs.Standing.{MayHaveRecords}
use Rattle.txn_log.specs.Records.{reach}
use Rattle.txn_log.specs.Steps.{WithOrWithout}
use Rattle.txn_log.specs.Stores.{Counts}
use Rattle.txn_log.proofs.Batches.{reach_is}
use Rattle.txn_log.proofs.Appended.{good_to, counts_more, has_records, may_have_records}
use Rattle.txn_log.proofs.log.Log.append_all.Goals as goal

pub add_all-requires-clause-stands : goal.add_all-requires-clause-stands
add_all-requires-clause-stands g c told =
    let s = c.requires.stands told in
    good_to c.args.self.now.slot c.args.batch.now (g.D.Disk.seen c.args.disk.now) s.header s.payloads c.args.self.now.end s.counts

pub returns-in-Ok-clause-stands : goal.returns-in-Ok-clause-stands
returns-in-Ok-clause-stands g c told =
    let s = c.requires.stands told in
    let more = counts_more c.args.self.now.slot c.args.batch.now (g.D.Disk.seen c.args.disk.now) s.header s.payloads c.args.self.now.end s.counts (g.D.Disk.seen c.add_all.new.disk) (c.in-Ok.ensures.added told) in
    let place : reach c.args.self.now.end c.args.batch.now ≡ c.args.self.now.end + c.size.result = reach_is c.args.self.now.end c.args.batch.now ∙ ap (λ (k : ℕ). c.args.self.now.end + k) (sym c.size.ensures.bytes) in
    let count : length (s.payloads ++ c.args.batch.now) ≡ c.args.self.now.records + c.len.result = length-append s.payloads c.args.batch.now ∙ (ap (λ (k : ℕ). k + length c.args.batch.now) s.count ∙ ap (λ (k : ℕ). c.args.self.now.records + k) (sym c.len.ensures)) in
    record { header = s.header; payloads = s.payloads ++ c.args.batch.now; counts = more ∙ ap (λ (k : ℕ). Counts c.args.self.now.slot s.header (s.payloads ++ c.args.batch.now) k) place; generation = s.generation; count = count }

pub returns-in-Ok-clause-added : goal.returns-in-Ok-clause-added
returns-in-Ok-clause-added g c told =
    let s = c.requires.stands told in
    has_records c.args.self.now.slot c.args.batch.now (g.D.Disk.seen c.args.disk.now) s.header s.payloads c.args.self.now.end s.counts (g.D.Disk.seen c.add_all.new.disk) (c.in-Ok.ensures.added told)

pub returns-in-Ok-clause-any_moment : goal.returns-in-Ok-clause-any_moment
returns-in-Ok-clause-any_moment g c told only =
    let d = g.D.Disk in
    let s = c.requires.stands told in
    weaker d.moment d.left_since d.images c.args.disk.now c.add_all.new.disk (WithOrWithout c.args.self.now.slot c.args.batch.now (d.seen c.args.disk.now)) (MayHaveRecords c.args.batch.now (d.seen c.args.disk.now)) (c.add_all.ensures.any_moment told only)
    (may_have_records c.args.self.now.slot c.args.batch.now (d.seen c.args.disk.now) s.header s.payloads c.args.self.now.end s.counts)

pub returns-in-Err-clause-any_moment : goal.returns-in-Err-clause-any_moment
returns-in-Err-clause-any_moment g c told only =
    let d = g.D.Disk in
    let s = c.requires.stands told in
    weaker d.moment d.left_since d.images c.args.disk.now c.add_all.new.disk (WithOrWithout c.args.self.now.slot c.args.batch.now (d.seen c.args.disk.now)) (MayHaveRecords c.args.batch.now (d.seen c.args.disk.now)) (c.add_all.ensures.any_moment told only)
    (may_have_records c.args.self.now.slot c.args.batch.now (d.seen c.args.disk.now) s.header s.payloads c.args.self.now.end s.counts)

-- what a read gives is one of the images
pub returns-in-Ok-clause-read : goal.returns-in-Ok-clause-read
returns-in-Ok-clause-read g c told only =
    let d = g.D.Disk in
    let s = c.requires.stands told in
    let each = (c.add_all.ensures.any_moment told only).each (d.seen c.add_all.new.disk) (g.met.D.Disk.counts_now c.add_all.new.disk (d.moment c.args.disk.now) (d.seen c.add_all.new.disk) (c.add_all.ensures.any_moment told only).later (g.met.D.Disk.honest c.add_all.new.disk told)) in
    may_have_records c.args.self.now.slot c.args.batch.now (d.seen c.args.disk.now) s.header s.payloads c.args.self.now.end s.counts (d.seen c.add_all.new.disk) each

pub returns-in-Err-clause-read : goal.returns-in-Err-clause-read
returns-in-Err-clause-read g c told only =
    let d = g.D.Disk in
    let s = c.requires.stands told in
    let each = (c.add_all.ensures.any_moment told only).each (d.seen c.add_all.new.disk) (g.met.D.Disk.counts_now c.add_all.new.disk (d.moment c.args.disk.now) (d.seen c.add_all.new.disk) (c.add_all.ensures.any_moment told only).later (g.met.D.Disk.honest c.add_all.new.disk told)) in
    may_have_records c.args.self.now.slot c.args.batch.now (d.seen c.args.disk.now) s.header s.payloads c.args.self.now.end s.counts (d.seen c.add_all.new.disk) each
