use Rattle.flow_session.specs.Inputs.{unended}
use Rattle.range_laws.proofs.Asked.{input_in_range}
use Rattle.range_laws.proofs.laws.asked_are_in_range.Goals as goal

pub returns : goal.returns
returns c = λ s input ts asks whole ok.
    input_in_range s.core whole.right.0 whole.keyed ok (unended s) input ts asks
