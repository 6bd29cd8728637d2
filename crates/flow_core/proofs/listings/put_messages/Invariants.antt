use Rattle.std.proofs.Common.{◌≡◌, ◌++◌, drop}
use Rattle.std.specs.List.{flat_map}
use Rattle.recover_queue.specs.Queues.{queue as messages_of}
use Rattle.flow_core.specs.Answers.{message_line}
use Rattle.flow_core.proofs.listings.put_messages.Given as goal

abbrev pub invariant-loop-place : goal.invariant-loop-place
invariant-loop-place l = l.out.items ++ flat_map message_line (drop l.place (messages_of l.queues l.queue)) ≡ l.initial.out.items ++ flat_map message_line (messages_of l.queues l.queue)
