use Rattle.flow_words.proofs.following.print_followed.Goals as goal

pub returns-in_ok-followed_text-in-Ok-clause-cause : goal.returns-in_ok-followed_text-in-Ok-clause-cause
returns-in_ok-followed_text-in-Ok-clause-cause g c read read' store store' ended = c.print_answer.ensures.cause read read' store store'

pub returns-in-Err-clause-cause : goal.returns-in-Err-clause-cause
returns-in-Err-clause-cause g c read read' store store' ended = c.print_unfollowed.ensures.cause read read' store store' (rw c.in-Err.is at ended)
