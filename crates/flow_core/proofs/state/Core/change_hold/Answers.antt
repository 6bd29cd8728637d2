use Rattle.flow_core.proofs.Shelved.{hold_shelves}
use Rattle.flow_core.proofs.Written.{on_ok_so}
use Rattle.flow_core.proofs.state.Core.change_hold.Goals as goal

pub returns-clause-shelves : goal.returns-clause-shelves
returns-clause-shelves c =
    on_ok_so _ _ c.list_item.result
    (hold_shelves c.args.self.now c.hold_in_root.new.self c.list_item.new.self c.args.item.now c.hold_in_root.ensures.rest c.list_item.ensures.rest)
    c.list_item.ensures.shelves
