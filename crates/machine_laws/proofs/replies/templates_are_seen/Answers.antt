use Rattle.machine_laws.proofs.replies.templates_are_seen.Goals as goal

pub returns : goal.returns
returns c = λ a text is. is
