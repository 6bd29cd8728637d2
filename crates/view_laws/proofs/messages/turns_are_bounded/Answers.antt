use Rattle.view_laws.proofs.TakenMessages.{turns_are_bounded}
use Rattle.view_laws.proofs.messages.turns_are_bounded.Goals as goal

pub returns : goal.returns
returns c = λ r q h well fronts. turns_are_bounded r q h well fronts
