use Rattle.flow_core.proofs.Shelved.{follow_shelves}
use Rattle.flow_core.proofs.Written.{on_ok_so}
use Rattle.flow_core.proofs.state.Core.follow.Goals as goal

pub returns-clause-shelves : goal.returns-clause-shelves
returns-clause-shelves c =
    on_ok_so _ _ c.list_all.result
    (follow_shelves c.args.self.now c.put_all.new.self c.list_all.new.self c.args.ready.items c.put_all.ensures.rest)
    c.list_all.ensures.shelves
