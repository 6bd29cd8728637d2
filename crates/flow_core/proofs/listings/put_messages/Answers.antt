use Rattle.std.proofs.Common.{sym}
use Rattle.recover_queue.specs.Queues.{queue as messages_of}
use Rattle.flow_core.specs.Answers.{message_line}
use Rattle.flow_core.proofs.Listed.{put_next}
use Rattle.flow_core.proofs.listings.put_messages.Goals as goal

pub loop-place-preserved : goal.loop-place-preserved
loop-place-preserved c =
    put_next message_line (messages_of c.args.queues.now c.args.queue) c.loop-place.place c.in-Some.message.now _ _ _
    (sym c.in-Some.ensures) c.in_ok-put_message.ensures c.loop-place.invariant
