use Rattle.flow_core.proofs.Admitting.{item_due}
use Rattle.flow_core.proofs.state.Core.allows_item.Goals as goal

pub returns-in-Some-clause-due : goal.returns-in-Some-clause-due
returns-in-Some-clause-due c =
    item_due c.args.self.now c.args.item.now c.args.t.now c.in-Some.known c.allows_on.result c.in-Some.ensures.known c.allows_on.ensures.due
