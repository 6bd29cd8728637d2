use Rattle.std.proofs.Common.{◌≡◌, inl, inr, subst, sym}
use Rattle.std.proofs.KnownBytes.{Keeps-refl}
use Rattle.flow_core.specs.Summaries.{summary}
use Rattle.flow_core.specs.declared.state.Core.{Core}
use Rattle.flow_disk.proofs.Runs.{joined, weaker}
use Rattle.flow_session.specs.Histories.{StandsFor}
use Rattle.flow_session.proofs.Keeping.{counts_since, seen_left}
use Rattle.flow_session.proofs.Runs.{opened, served}
use Rattle.flow_session.specs.Refusing.{IsUnopened}
use Rattle.standby.specs.Adopting.{AdoptsAll}
use Rattle.standby.specs.Followed.{IsAtStage}
use Rattle.standby.proofs.Taken.{makes_opened}
use Rattle.standby.proofs.Unopened.{not_opened}
use Rattle.flow_session.proofs.Queued.{opened_has_queue}
use Rattle.standby.proofs.following.follow.Goals as goal

pub returns-in-Err-clause-kept : goal.returns-in-Err-clause-kept
returns-in-Err-clause-kept g c told only = inl (opened g.D.Disk.tells g.D.Disk.moment g.D.Disk.left_since g.D.Disk.seen g.D.Disk.images c.args.disk c.open.new.disk only c.open.ensures.any_moment)

pub returns-in-Ok-clause-kept : goal.returns-in-Ok-clause-kept
returns-in-Ok-clause-kept g c told only =
    let f = c.follow_from.ensures.makes in
    inr (served g.D.Disk.tells g.D.Disk.moment g.D.Disk.left_since g.D.Disk.seen g.D.Disk.images
    (counts_since g.D.Disk.moment g.D.Disk.left_since g.D.Disk.images g.met.D.Disk.counts_now g.met.D.Disk.only_now)
    c.args.disk c.open.new.disk c.follow_from.result.1
    (seen_left g.D.Disk.moment g.D.Disk.left_since g.D.Disk.images g.met.D.Disk.counts_now g.D.Disk.tells g.D.Disk.seen g.met.D.Disk.honest c.args.disk)
    (summary c.in-Ok.core) _
    (opened g.D.Disk.tells g.D.Disk.moment g.D.Disk.left_since g.D.Disk.seen g.D.Disk.images c.args.disk c.open.new.disk only c.open.ensures.any_moment)
    c.in-Ok.ensures.seen (c.in-Ok.ensures.open told).holds
    (record { transactions = f.transactions; any_moment = f.any_moment; fit = f.fit; ended = λ ok image left. f.ended ok told image left }))

pub returns-in-Err-clause-cause : goal.returns-in-Err-clause-cause
returns-in-Err-clause-cause g c = c.from.ensures.1 (g.S.Source.faults c.args.src.now) (g.D.Disk.faults c.args.disk) (g.D.Disk.faults c.open.new.disk) c.in-Err.ensures.cause

pub returns-in-Ok-clause-cause : goal.returns-in-Ok-clause-cause
returns-in-Ok-clause-cause g c = rw c.in-Ok.ensures.cause at c.follow_from.ensures.cause

pub returns-in-Err-clause-follows : goal.returns-in-Err-clause-follows
returns-in-Err-clause-follows g c = inl (
  not_opened (λ stop. g.D.Disk.tells → IsUnopened (g.D.Disk.seen c.args.disk) stop) c.in-Err.stop c.from.result c.from.ensures.0 c.in-Err.ensures.refused,
  Keeps-refl (g.S.Source.left c.args.src.now),
  λ told only. opened g.D.Disk.tells g.D.Disk.moment g.D.Disk.left_since g.D.Disk.seen g.D.Disk.images c.args.disk c.open.new.disk only c.open.ensures.any_moment,
)

pub returns-in-Ok-clause-follows : goal.returns-in-Ok-clause-follows
returns-in-Ok-clause-follows g c =
    let d = g.D.Disk in
    let core = c.in-Ok.core in
    let stood = λ (told : d.tells). subst (StandsFor (summary core)) c.in-Ok.ensures.seen
    (c.in-Ok.ensures.open told).holds in
    let queued = λ (told : d.tells). opened_has_queue (d.seen c.open.new.disk) c.in-Ok.opened (summary core)
    (c.in-Ok.ensures.opened told) c.in-Ok.ensures.comes in
    inr (record {
      core = core;
      stood = stood;
      state = c.in-Ok.ensures.state;
      reached = c.in-Ok.ensures.reached;
      queued = queued;
      makes = λ told only. makes_opened d.tells d.moment d.left_since d.seen
          (counts_since d.moment d.left_since d.images g.met.D.Disk.counts_now g.met.D.Disk.only_now)
          c.args.disk c.open.new.disk c.follow_from.result.1
          (seen_left d.moment d.left_since d.images g.met.D.Disk.counts_now d.tells d.seen g.met.D.Disk.honest
          c.args.disk)
          (summary core) (λ ts. (last : Core) × AdoptsAll core ts last)
          (opened d.tells d.moment d.left_since d.seen d.images c.args.disk c.open.new.disk only
          c.open.ensures.any_moment)
          (stood told) (c.follow_from.ensures.adopts (c.in-Ok.ensures.right (queued told)).0);
      stages = λ told only.
          joined d.moment d.left_since d.images c.args.disk c.open.new.disk c.follow_from.result.1
          (IsAtStage core (g.S.Source.left c.args.src.now))
          (weaker d.moment d.left_since d.images c.args.disk c.open.new.disk (λ image. image ≡ d.seen c.args.disk)
          (IsAtStage core (g.S.Source.left c.args.src.now))
          (opened d.tells d.moment d.left_since d.seen d.images c.args.disk c.open.new.disk only
          c.open.ensures.any_moment)
          (λ image is. inl (subst (StandsFor (summary core)) (sym is) (stood told))))
          (c.follow_from.ensures.stages (c.in-Ok.ensures.right (queued told)).0 told);
      follows = λ some_. c.follow_from.ensures.follows (c.in-Ok.ensures.right some_).0;
    })
