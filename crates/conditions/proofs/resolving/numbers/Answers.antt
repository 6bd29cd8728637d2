use Rattle.conditions.specs.Resolving.{NumbersOf}
use Rattle.conditions.proofs.resolving.numbers.Goals as goal

pub returns : goal.returns
returns c = λ few first second. NumbersOf first.kind second.kind (c.in_ok-first.ensures few first) (c.in_ok-second.ensures few second)
