use Rattle.std.proofs.Common.{inl, inr, refl, rules}
use Rattle.flow_core.specs.Summaries.{summary}
use Rattle.flow_session.proofs.Keeping.{counts_since, seen_left}
use Rattle.flow_session.proofs.Runs.{opened, served}
use Rattle.flow_words.proofs.Serving.{opened_whole, stood_there}
use Rattle.flow_words.proofs.stored.run_script.Goals as goal

pub returns-in-Ok-default-clause-store : goal.returns-in-Ok-default-clause-store
returns-in-Ok-default-clause-store g c told only =
    let f = c.serve_store.ensures.makes in
    inr (served g.D.Disk.tells g.D.Disk.moment g.D.Disk.left_since g.D.Disk.seen g.D.Disk.images
    (counts_since g.D.Disk.moment g.D.Disk.left_since g.D.Disk.images g.met.D.Disk.counts_now g.met.D.Disk.only_now)
    c.args.disk c.reopen.new.disk c.serve_store.result.1
    (seen_left g.D.Disk.moment g.D.Disk.left_since g.D.Disk.images g.met.D.Disk.counts_now g.D.Disk.tells g.D.Disk.seen g.met.D.Disk.honest c.args.disk)
    (summary c.in-Ok.session.core) _
    (opened g.D.Disk.tells g.D.Disk.moment g.D.Disk.left_since g.D.Disk.seen g.D.Disk.images c.args.disk c.reopen.new.disk only c.reopen.ensures.any_moment)
    c.in-Ok.ensures.seen (c.in-Ok.ensures.open told).holds
    (record { transactions = f.transactions; any_moment = f.any_moment; fit = f.fit; ended = λ done image left. f.ended (search rules) told image left }))

pub returns-in-Err-default-clause-store : goal.returns-in-Err-default-clause-store
returns-in-Err-default-clause-store g c told only =
    let f = c.serve_store.ensures.makes in
    let fails = rw c.in-Err-default.is-0 at c.serve_store.ensures.fails in
    inr (served g.D.Disk.tells g.D.Disk.moment g.D.Disk.left_since g.D.Disk.seen g.D.Disk.images
    (counts_since g.D.Disk.moment g.D.Disk.left_since g.D.Disk.images g.met.D.Disk.counts_now g.met.D.Disk.only_now)
    c.args.disk c.reopen.new.disk c.serve_store.result.1
    (seen_left g.D.Disk.moment g.D.Disk.left_since g.D.Disk.images g.met.D.Disk.counts_now g.D.Disk.tells g.D.Disk.seen g.met.D.Disk.honest c.args.disk)
    (summary c.in-Ok.session.core) _
    (opened g.D.Disk.tells g.D.Disk.moment g.D.Disk.left_since g.D.Disk.seen g.D.Disk.images c.args.disk c.reopen.new.disk only c.reopen.ensures.any_moment)
    c.in-Ok.ensures.seen (c.in-Ok.ensures.open told).holds
    (record { transactions = f.transactions; any_moment = f.any_moment; fit = f.fit; ended = λ done image left. absurd (fails done) }))

pub returns-in-Ok-default-clause-runs : goal.returns-in-Ok-default-clause-runs
returns-in-Ok-default-clause-runs g c = inr (
  _,
  record {
    s = c.in-Ok.session;
    log = c.in-Ok.log;
    opened = c.reopen.new.disk;
    keeps = λ only. opened g.D.Disk.tells g.D.Disk.moment g.D.Disk.left_since g.D.Disk.seen g.D.Disk.images c.args.disk c.reopen.new.disk only c.reopen.ensures.any_moment;
    stood = λ told. stood_there g.D.Disk.seen c.args.disk c.reopen.new.disk (summary c.in-Ok.session.core) c.in-Ok.ensures.seen (c.in-Ok.ensures.open told).holds;
    reached = c.in-Ok.ensures.reached;
    state = c.in-Ok.ensures.state;
    outside = c.in-Ok.ensures.outside;
    whole = λ told. opened_whole c.in-Ok.session (g.D.Disk.seen c.args.disk) c.in-Ok.ensures.right
        (stood_there g.D.Disk.seen c.args.disk c.reopen.new.disk (summary c.in-Ok.session.core) c.in-Ok.ensures.seen
        (c.in-Ok.ensures.open told).holds) (c.in-Ok.ensures.state told).keyed;
    serves = c.serve_store.ensures.serves;
    answered = λ told. c.serve_store.ensures.serves.script.answered (opened_whole c.in-Ok.session (g.D.Disk.seen c.args.disk) c.in-Ok.ensures.right
        (stood_there g.D.Disk.seen c.args.disk c.reopen.new.disk (summary c.in-Ok.session.core) c.in-Ok.ensures.seen
        (c.in-Ok.ensures.open told).holds) (c.in-Ok.ensures.state told).keyed);
  },
  search rules,
)

pub returns-in-Err-default-clause-runs : goal.returns-in-Err-default-clause-runs
returns-in-Err-default-clause-runs g c = inr (
  _,
  record {
    s = c.in-Ok.session;
    log = c.in-Ok.log;
    opened = c.reopen.new.disk;
    keeps = λ only. opened g.D.Disk.tells g.D.Disk.moment g.D.Disk.left_since g.D.Disk.seen g.D.Disk.images c.args.disk c.reopen.new.disk only c.reopen.ensures.any_moment;
    stood = λ told. stood_there g.D.Disk.seen c.args.disk c.reopen.new.disk (summary c.in-Ok.session.core) c.in-Ok.ensures.seen (c.in-Ok.ensures.open told).holds;
    reached = c.in-Ok.ensures.reached;
    state = c.in-Ok.ensures.state;
    outside = c.in-Ok.ensures.outside;
    whole = λ told. opened_whole c.in-Ok.session (g.D.Disk.seen c.args.disk) c.in-Ok.ensures.right
        (stood_there g.D.Disk.seen c.args.disk c.reopen.new.disk (summary c.in-Ok.session.core) c.in-Ok.ensures.seen
        (c.in-Ok.ensures.open told).holds) (c.in-Ok.ensures.state told).keyed;
    serves = c.serve_store.ensures.serves;
    answered = λ told. c.serve_store.ensures.serves.script.answered (opened_whole c.in-Ok.session (g.D.Disk.seen c.args.disk) c.in-Ok.ensures.right
        (stood_there g.D.Disk.seen c.args.disk c.reopen.new.disk (summary c.in-Ok.session.core) c.in-Ok.ensures.seen
        (c.in-Ok.ensures.open told).holds) (c.in-Ok.ensures.state told).keyed);
  },
  search rules,
)

pub returns-in-Err-clause-runs : goal.returns-in-Err-clause-runs
returns-in-Err-clause-runs g c = inl (
  (c.in-Err.stop, c.in-Err.ensures.refused, c.refuse.ensures.refused),
  refl,
  λ told only. opened g.D.Disk.tells g.D.Disk.moment g.D.Disk.left_since g.D.Disk.seen g.D.Disk.images c.args.disk
      c.reopen.new.disk only c.reopen.ensures.any_moment,
)

pub returns-in-Err-clause-cause : goal.returns-in-Err-clause-cause
returns-in-Err-clause-cause g c = c.refuse.ensures.cause (g.S.Source.faults c.args.src.now) (g.S.Source.faults c.args.src.now) (g.D.Disk.faults c.args.disk) (g.D.Disk.faults c.reopen.new.disk) c.in-Err.ensures.cause
