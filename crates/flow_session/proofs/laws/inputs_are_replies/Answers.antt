use Rattle.flow_session.proofs.Served.{input_served}
use Rattle.flow_session.proofs.laws.inputs_are_replies.Goals as goal

pub returns : goal.returns
returns c = input_served
