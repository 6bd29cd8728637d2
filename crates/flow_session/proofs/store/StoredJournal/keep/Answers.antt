use Rattle.std.proofs.Common.{subst}
use Rattle.flow_disk.proofs.Runs.{weaker}
use Rattle.txn_log.specs.Standing.{HasRecord, MayHaveRecord}
use Rattle.flow_session.specs.Fitting.{HasFitRecords}
use Rattle.flow_session.specs.Serving.{WithOrWithout}
use Rattle.flow_session.proofs.Fitting.{fit_with_or_without}
use Rattle.flow_session.proofs.Histories.{one_more, with_or_without}
use Rattle.flow_session.proofs.Keeping.{in_journal, same_place, seen_left}
use Rattle.flow_session.proofs.store.StoredJournal.keep.Goals as goal

pub returns-in_err-append-clause-any_moment : goal.returns-in_err-append-clause-any_moment
returns-in_err-append-clause-any_moment g c s t told is spelled fit =
    let d = g.D.Disk in
    in_journal (λ j. j.disk) d.moment d.left_since _ _ (WithOrWithout t s)
    (weaker d.moment d.left_since d.images c.args.self.now.disk c.append.new.disk (MayHaveRecord c.args.payload.now (d.seen c.args.self.now.disk)) (WithOrWithout t s) (c.append.ensures.any_moment told is.only)
    (λ image may. with_or_without s t (d.seen c.args.self.now.disk) image is.holds fit (subst (λ p. MayHaveRecord p (d.seen c.args.self.now.disk) image) spelled may)))

pub returns-clause-kept : goal.returns-clause-kept
returns-clause-kept g c s t told is spelled fit =
    let d = g.D.Disk in
    record {
      alive = c.in_ok-append.ensures.alive;
      stands = c.in_ok-append.ensures.stands told;
      only = c.in_ok-append.ensures.durable;
      holds = one_more s t (d.seen c.args.self.now.disk) (d.seen c.append.new.disk) is.holds fit (subst (λ p. HasRecord p (d.seen c.args.self.now.disk) (d.seen c.append.new.disk)) spelled (c.in_ok-append.ensures.added told));
    }

pub returns-clause-any_moment : goal.returns-clause-any_moment
returns-clause-any_moment g c s t told is spelled fit =
    let d = g.D.Disk in
    in_journal (λ j. j.disk) d.moment d.left_since _ _ (WithOrWithout t s)
    (weaker d.moment d.left_since d.images c.args.self.now.disk c.append.new.disk (MayHaveRecord c.args.payload.now (d.seen c.args.self.now.disk)) (WithOrWithout t s) (c.append.ensures.any_moment told is.only)
    (λ image may. with_or_without s t (d.seen c.args.self.now.disk) image is.holds fit (subst (λ p. MayHaveRecord p (d.seen c.args.self.now.disk) image) spelled may)))

pub returns-in_err-append-clause-place : goal.returns-in_err-append-clause-place
returns-in_err-append-clause-place g c = same_place c.append.new.log c.args.self.now.log c.append.ensures.same.0 c.append.ensures.same.1

pub returns-clause-place : goal.returns-clause-place
returns-clause-place g c = same_place c.append.new.log c.args.self.now.log c.append.ensures.same.0 c.append.ensures.same.1

pub returns-in_err-append-clause-fit : goal.returns-in_err-append-clause-fit
returns-in_err-append-clause-fit g c s t told is spelled fits now fit =
    let d = g.D.Disk in
    let seen_fit = now (d.seen c.args.self.now.disk)
    (seen_left d.moment d.left_since d.images g.met.D.Disk.counts_now d.tells d.seen g.met.D.Disk.honest c.args.self.now.disk told) in
    in_journal (λ j. j.disk) d.moment d.left_since _ _ HasFitRecords
    (weaker d.moment d.left_since d.images c.args.self.now.disk c.append.new.disk (MayHaveRecord c.args.payload.now (d.seen c.args.self.now.disk)) HasFitRecords (c.append.ensures.any_moment told is.only)
    (λ image may. fit_with_or_without s t (d.seen c.args.self.now.disk) image seen_fit is.holds fits fit (subst (λ p. MayHaveRecord p (d.seen c.args.self.now.disk) image) spelled may)))

pub returns-clause-fit : goal.returns-clause-fit
returns-clause-fit g c s t told is spelled fits now fit =
    let d = g.D.Disk in
    let seen_fit = now (d.seen c.args.self.now.disk)
    (seen_left d.moment d.left_since d.images g.met.D.Disk.counts_now d.tells d.seen g.met.D.Disk.honest c.args.self.now.disk told) in
    in_journal (λ j. j.disk) d.moment d.left_since _ _ HasFitRecords
    (weaker d.moment d.left_since d.images c.args.self.now.disk c.append.new.disk (MayHaveRecord c.args.payload.now (d.seen c.args.self.now.disk)) HasFitRecords (c.append.ensures.any_moment told is.only)
    (λ image may. fit_with_or_without s t (d.seen c.args.self.now.disk) image seen_fit is.holds fits fit (subst (λ p. MayHaveRecord p (d.seen c.args.self.now.disk) image) spelled may)))
