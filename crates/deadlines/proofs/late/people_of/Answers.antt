use Rattle.std.proofs.Common.{refl}
use Rattle.deadlines.proofs.Declared.{next_declared, none_left, all_declared}
use Rattle.deadlines.proofs.late.people_of.Goals as goal

pub loop-person-preserved : goal.loop-person-preserved
loop-person-preserved c = (
  c.insert.ensures.ordered,
  next_declared c.as_slice-person-items.result.now c.args.library.now.people c.loop-person.person-index c.person-item.result c.as_slice.result.now c.loop-person.people c.insert.new.self
      c.as_slice-person-items.ensures c.loop-person-test.true c.person-item.is refl c.as_slice.ensures c.in_ok-insert.ensures.updates c.loop-person.invariant.1,
)

pub returns : goal.returns
returns c =
    all_declared c.args.library.now c.loop-person.people c.loop-person.invariant.0
    (none_left c.as_slice-person-items.result.now c.args.library.now.people c.loop-person.person-index c.loop-person.people c.as_slice-person-items.ensures c.loop-person-test.false c.loop-person.invariant.1)
