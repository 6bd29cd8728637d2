use Rattle.std.proofs.Common.{subst}
use Rattle.flow_disk.specs.Images.{Image}
use Rattle.txn_log.specs.Opening.{IsOpened}
use Rattle.flow_session.proofs.Keeping.{stands_for}
use Rattle.flow_session.proofs.Replaying.{replays}
use Rattle.flow_session.proofs.Stopping.{open_after}
use Rattle.std.proofs.lemmas.Result.{err_from_is_err_and}
use Rattle.flow_session.proofs.opening.open.Goals as goal

pub returns-clause-open : goal.returns-clause-open
returns-clause-open g c told = record {
  alive = c.in_ok-opened.ensures.records.alive;
  stands = c.in_ok-opened.ensures.stands told;
  only = c.in_ok-opened.ensures.durable;
  holds = stands_for _ _ _ _ _ _ (c.in_ok-opened.ensures.opened told) c.in_ok-core.ensures.comes;
}

pub returns-in_err-core-clause-cause : goal.returns-in_err-core-clause-cause
returns-in_err-core-clause-cause g c =
    let p = err_from_is_err_and c.from_residual-in_err-core.result c.from_residual-in_err-core.ensures.1 in
    rw (p.1, p.2) (open_after (g.D.Disk.faults c.args.disk.now) (g.D.Disk.faults c.reopen.new.disk) c.in_err-core.field-0.0 c.in_ok-opened.ensures.cause c.in_err-core.ensures.silent)

pub returns-clause-state : goal.returns-clause-state
returns-clause-state g c told =
    replays (g.D.Disk.seen c.args.disk.now) c.in_ok-opened.opened c.in_ok-core.core
    (subst (λ (image : Image). IsOpened image c.in_ok-opened.opened) c.in_ok-opened.ensures.seen
    (c.in_ok-opened.ensures.opened told)) c.in_ok-core.ensures.admitted

pub returns-clause-reached : goal.returns-clause-reached
returns-clause-reached g c told = record {
  slot = c.in_ok-opened.opened.log.slot;
  header = c.in_ok-opened.opened.header;
  payloads = c.in_ok-opened.opened.records;
  end = c.in_ok-opened.opened.log.end;
  counts = subst (λ (image : Image). IsOpened image c.in_ok-opened.opened) c.in_ok-opened.ensures.seen
      (c.in_ok-opened.ensures.opened told);
  leads = c.in_ok-core.ensures.admitted;
}
