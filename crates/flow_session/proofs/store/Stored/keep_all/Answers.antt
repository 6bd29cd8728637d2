use Rattle.std.proofs.Common.{◌≡◌, [], inl, sym, subst, ◌∙◌, rules}
use Rattle.flow_disk.proofs.Runs.{weaker}
use Rattle.txn_log.specs.Standing.{HasRecords, MayHaveRecords}
use Rattle.flow_session.specs.Fitting.{HasFitRecords}
use Rattle.flow_session.specs.Histories.{after}
use Rattle.flow_session.specs.Keeping.{IsOpen, rests}
use Rattle.flow_session.specs.Serving.{AllOrNone}
use Rattle.flow_session.proofs.Fitting.{fit_all_or_none}
use Rattle.flow_session.proofs.Histories.{all_more, all_or_none, none_behind}
use Rattle.flow_session.proofs.Keeping.{nothing_done, seen_left}
use Rattle.flow_session.proofs.store.Stored.keep_all.Goals as goal

pub returns-then-is_empty-clause-kept : goal.returns-then-is_empty-clause-kept
returns-then-is_empty-clause-kept g c s ts told is spelled fits =
    let d = g.D.Disk in
    let empty : c.args.batch.now ≡ [] = search rules in
    subst (λ us. IsOpen d.seen d.images c.args.self.now.log c.args.self.now.disk (after s us)) (sym (none_behind s.transactions ts (sym spelled ∙ empty))) is

pub returns-then-is_empty-clause-any_moment : goal.returns-then-is_empty-clause-any_moment
returns-then-is_empty-clause-any_moment g c s ts told is spelled fits =
    let d = g.D.Disk in
    nothing_done d.moment d.left_since c.args.self.now.disk (AllOrNone ts s)
    (λ image left. inl (rests d.seen d.images c.args.self.now.log c.args.self.now.disk s image is (g.met.D.Disk.only_now c.args.self.now.disk image left)))

pub returns-in_err-append_all-clause-any_moment : goal.returns-in_err-append_all-clause-any_moment
returns-in_err-append_all-clause-any_moment g c s ts told is spelled fits =
    let d = g.D.Disk in
    weaker d.moment d.left_since d.images c.args.self.now.disk c.append_all.new.disk (MayHaveRecords c.args.batch.now (d.seen c.args.self.now.disk)) (AllOrNone ts s) (c.append_all.ensures.any_moment told is.only)
    (λ image may. all_or_none s ts (d.seen c.args.self.now.disk) image is.holds fits (subst (λ ps. MayHaveRecords ps (d.seen c.args.self.now.disk) image) spelled may))

pub returns-clause-any_moment : goal.returns-clause-any_moment
returns-clause-any_moment g c s ts told is spelled fits =
    let d = g.D.Disk in
    weaker d.moment d.left_since d.images c.args.self.now.disk c.append_all.new.disk (MayHaveRecords c.args.batch.now (d.seen c.args.self.now.disk)) (AllOrNone ts s) (c.append_all.ensures.any_moment told is.only)
    (λ image may. all_or_none s ts (d.seen c.args.self.now.disk) image is.holds fits (subst (λ ps. MayHaveRecords ps (d.seen c.args.self.now.disk) image) spelled may))

pub returns-clause-kept : goal.returns-clause-kept
returns-clause-kept g c s ts told is spelled fits =
    let d = g.D.Disk in
    record {
      alive = c.in_ok-append_all.ensures.alive;
      stands = c.in_ok-append_all.ensures.stands told;
      only = c.in_ok-append_all.ensures.durable;
      holds = all_more s ts (d.seen c.args.self.now.disk) (d.seen c.append_all.new.disk) is.holds fits (subst (λ ps. HasRecords ps (d.seen c.args.self.now.disk) (d.seen c.append_all.new.disk)) spelled (c.in_ok-append_all.ensures.added told));
    }

pub returns-then-is_empty-clause-fit : goal.returns-then-is_empty-clause-fit
returns-then-is_empty-clause-fit g c s ts told is spelled fits now fit =
    nothing_done g.D.Disk.moment g.D.Disk.left_since c.args.self.now.disk HasFitRecords (λ image left. now image left)

pub returns-in_err-append_all-clause-fit : goal.returns-in_err-append_all-clause-fit
returns-in_err-append_all-clause-fit g c s ts told is spelled fits now fit =
    let d = g.D.Disk in
    let seen_fit = now (d.seen c.args.self.now.disk)
    (seen_left d.moment d.left_since d.images g.met.D.Disk.counts_now d.tells d.seen g.met.D.Disk.honest c.args.self.now.disk told) in
    weaker d.moment d.left_since d.images c.args.self.now.disk c.append_all.new.disk (MayHaveRecords c.args.batch.now (d.seen c.args.self.now.disk)) HasFitRecords (c.append_all.ensures.any_moment told is.only)
    (λ image may. fit_all_or_none s ts (d.seen c.args.self.now.disk) image seen_fit is.holds fits fit (subst (λ ps. MayHaveRecords ps (d.seen c.args.self.now.disk) image) spelled may))

pub returns-clause-fit : goal.returns-clause-fit
returns-clause-fit g c s ts told is spelled fits now fit =
    let d = g.D.Disk in
    let seen_fit = now (d.seen c.args.self.now.disk)
    (seen_left d.moment d.left_since d.images g.met.D.Disk.counts_now d.tells d.seen g.met.D.Disk.honest c.args.self.now.disk told) in
    weaker d.moment d.left_since d.images c.args.self.now.disk c.append_all.new.disk (MayHaveRecords c.args.batch.now (d.seen c.args.self.now.disk)) HasFitRecords (c.append_all.ensures.any_moment told is.only)
    (λ image may. fit_all_or_none s ts (d.seen c.args.self.now.disk) image seen_fit is.holds fits fit (subst (λ ps. MayHaveRecords ps (d.seen c.args.self.now.disk) image) spelled may))
