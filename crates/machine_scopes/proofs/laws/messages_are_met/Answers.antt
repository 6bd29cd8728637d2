use Rattle.machine_scopes.proofs.Meeting.{message_met}
use Rattle.machine_scopes.proofs.laws.messages_are_met.Goals as goal

pub returns : goal.returns
returns c = λ ts depth k j g input note message s well served by is comes shows. message_met ts depth k j g input s
    well served by shows message note is comes
