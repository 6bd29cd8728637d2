use Rattle.std.proofs.Common.{◌≡◌}
use Rattle.flow_core.specs.Summaries.{noted}
use Rattle.flow_core.specs.Driving.{put_in, queue_now}
use Rattle.flow_core.proofs.state.Core.put_all.Given as goal

abbrev pub invariant-loop-message : goal.invariant-loop-message
invariant-loop-message l =
    (l.self ≡ record l.fn.self { queues = l.self.queues })
    × (noted l.self ≡ noted l.fn.self)
    × (l.self.queues ≡ put_in (queue_now l.fn.self) l.yielded l.fn.self.queues)
