use Rattle.std.proofs.Common.{inl, inr, sym, subst}
use Rattle.std.proofs.KnownBytes.{Keeps-refl}
use Rattle.flow_core.specs.Summaries.{summary}
use Rattle.flow_disk.specs.Images.{Image}
use Rattle.txn_log.specs.Opening.{IsOpened}
use Rattle.flow_session.specs.Refusing.{IsUnopened}
use Rattle.standby.proofs.Unopened.{not_shipped, shipped_disk}
use Rattle.standby.proofs.shipping.ship.Goals as goal

pub returns-in-Err-clause-ships : goal.returns-in-Err-clause-ships
returns-in-Err-clause-ships g c = inl (not_shipped (λ stop. g.D.Disk.tells → IsUnopened (g.D.Disk.seen c.args.disk.now) stop) c.in-Err.stop c.from.result c.from.ensures.0 c.in-Err.ensures.refused, Keeps-refl (g.K.Sink.held c.args.out.now))

pub returns-in-Ok-clause-ships : goal.returns-in-Ok-clause-ships
returns-in-Ok-clause-ships g c = inr (record {
  opened = c.in-Ok.opened;
  number = c.number.result;
  store = λ told. record {
    held = subst (λ (image : Image). IsOpened image c.in-Ok.opened) c.in-Ok.ensures.seen (c.in-Ok.ensures.opened told);
    state = summary c.in-Ok.core;
    comes_to = c.in-Ok.ensures.comes;
    count = sym c.number.ensures;
  };
  ships = c.ship_opened.ensures.ships;
})

pub returns-in-Err-clause-disk : goal.returns-in-Err-clause-disk
returns-in-Err-clause-disk g c =
    c.from.ensures.2 (g.D.Disk.faults c.args.disk.now) (g.D.Disk.faults c.open.new.disk) c.in-Err.ensures.cause

pub returns-in-Ok-clause-disk : goal.returns-in-Ok-clause-disk
returns-in-Ok-clause-disk g c =
    shipped_disk c.ship_opened.result c.in-Ok.opened c.number.result c.args.from (g.D.Disk.faults c.args.disk.now)
    (g.D.Disk.faults c.open.new.disk) _ _ c.in-Ok.ensures.cause c.ship_opened.ensures.ships
