use Rattle.std.proofs.Common.{refl}
use Rattle.std.proofs.lemmas.List.{take_rest}
use Rattle.fate_eval.proofs.Groups.{one_led}
use Rattle.fate_eval.proofs.accepted.add_below.Goals as goal

pub returns-in_ok-push-in-len1-up : goal.returns-in_ok-push-in-len1-up
returns-in_ok-push-in-len1-up c = λ q led p. rw c.in_ok-push-in-len1-up.ensures.items (one_led c.args.group.now.items c.args.entry.now _ q led (take_rest c.args.entry.now.parts.now 1) refl p)
