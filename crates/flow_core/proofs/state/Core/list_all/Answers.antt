use Rattle.flow_core.proofs.Shelved.{list_next}
use Rattle.flow_core.proofs.state.Core.list_all.Goals as goal

pub loop-item-preserved : goal.loop-item-preserved
loop-item-preserved c =
    list_next c.args.self.now c.loop-item.self c.list_item.new.self c.loop-item.yielded c.in-Some.item c.loop-item.invariant.0 c.loop-item.invariant.1 c.in_ok-list_item.ensures.rest c.in_ok-list_item.ensures.shelves
