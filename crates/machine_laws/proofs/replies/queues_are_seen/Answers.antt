use Rattle.machine_laws.proofs.replies.queues_are_seen.Goals as goal

pub returns : goal.returns
returns c = λ a number text is. is
