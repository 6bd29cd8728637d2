use Rattle.flow_core.specs.Allowing.{subject_of}
use Rattle.flow_core.specs.Refusals.{taking_test}
use Rattle.flow_core.proofs.Admitting.{before}
use Rattle.flow_core.proofs.state.Core.allows_take.Goals as goal

pub returns : goal.returns
returns c = λ item. before (taking_test (subject_of c.args.known.now)) c.passes.result (cc) (c.passes.ensures.told (taking_test (subject_of c.args.known.now)) c.may_take.ensures)
