use Rattle.std.proofs.Common.{sym}
use Rattle.flow_core.specs.Allowing.{subject_of, IsOpen}
use Rattle.flow_core.specs.Refusals.{forcing_test}
use Rattle.flow_core.proofs.Admitting.{before, once_passed}
use Rattle.flow_core.proofs.state.Core.allows_force.Goals as goal

pub returns-clause-opened : goal.returns-clause-opened
returns-clause-opened c = λ item known. once_passed (IsOpen c.args.self.now item) c.may_force.result c.passes.result c.passes.ensures.passed (c.may_force.ensures.opened item known)

pub returns-clause-due : goal.returns-clause-due
returns-clause-due c = λ item.
    before (forcing_test (subject_of c.args.known.now)) c.passes.result (sym c.if-not-settings_fit.ensures) (c.passes.ensures.told (forcing_test (subject_of c.args.known.now)) c.may_force.ensures.stops)
