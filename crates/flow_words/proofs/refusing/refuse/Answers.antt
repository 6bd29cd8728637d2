use Rattle.flow_words.proofs.refusing.refuse.Goals as goal

pub returns-in-Some-clause-cause : goal.returns-in-Some-clause-cause
returns-in-Some-clause-cause g c read read' store store' told = c.print_refusal.ensures.cause read read' store store'
