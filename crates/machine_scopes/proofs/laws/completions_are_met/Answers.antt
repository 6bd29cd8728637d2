use Rattle.machine_scopes.proofs.Meeting.{completion_comes}
use Rattle.machine_scopes.proofs.laws.completions_are_met.Goals as goal

pub returns : goal.returns
returns c = λ ts depth k j g input item d s well served by comes shows. completion_comes ts depth k j g input s well
    served by shows item d comes
