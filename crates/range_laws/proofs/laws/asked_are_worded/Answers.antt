use Rattle.flow_session.specs.Inputs.{unended}
use Rattle.range_laws.proofs.Asked.{input_worded}
use Rattle.range_laws.proofs.laws.asked_are_worded.Goals as goal

pub returns : goal.returns
returns c = λ s input ts d asks leads whole from_one.
    input_worded s.core whole.right.0 whole.keyed d from_one (unended s) input ts asks leads
