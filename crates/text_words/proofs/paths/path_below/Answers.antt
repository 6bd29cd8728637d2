use Rattle.text_words.proofs.Spelling.{found_step, one_below}
use Rattle.text_words.proofs.paths.path_below.Goals as goal

pub returns-in_ok-below-in-Some : goal.returns-in_ok-below-in-Some
returns-in_ok-below-in-Some c = λ front is.
    rw c.in_ok-below-in-Some.ensures (one_below front c.args.text.now c.args.scope.now c.in-Some.step (found_step c.args.text.now c.in_ok-step.field-0 c.in-Some.step c.in-Some.is c.in_ok-step.ensures) is)
