use Rattle.std.proofs.Common.{◌≡◌, ◌-◌, ◌^◌, min, take}
use Rattle.recover_queue.specs.Queues.{count_of_root}
use Rattle.recover_queue.proofs.queues.Queues.count_of_root.Given as goal

abbrev pub invariant-loop-queue : goal.invariant-loop-queue
invariant-loop-queue l = l.count ≡ min (count_of_root l.root (take l.queue-index l.self)) (2 ^ 64 - 1)
