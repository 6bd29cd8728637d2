use Rattle.flow_core.proofs.Refusing.{take_for}
use Rattle.flow_core.proofs.state.Core.judge_take.Goals as goal

pub returns-clause-made : goal.returns-clause-made
returns-clause-made c = take_for c.args.self.now c.args.token.now c.in_ok-found.found c.in_ok-item.item c.take_item.result c.in_ok-found.ensures c.in_ok-item.ensures.there c.take_item.ensures.made
