use Rattle.std.proofs.Common.{◌∙◌}
use Rattle.flow_core.proofs.Putting.{put_next}
use Rattle.flow_core.proofs.state.Core.put_all.Goals as goal

pub loop-message-preserved : goal.loop-message-preserved
loop-message-preserved c =
    let next = put_next c.args.self.now c.loop-message.self c.put.new.self c.loop-message.yielded c.in-Some.message c.loop-message.invariant.0 c.loop-message.invariant.2 c.in_ok-put.ensures.rest
    c.in_ok-put.ensures.queues in
    (next.0, c.in_ok-put.ensures.kept ∙ c.loop-message.invariant.1, next.1)
