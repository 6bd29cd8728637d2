use Rattle.std.proofs.Common.{refl, sym}
use Rattle.flow_core.specs.Allowing.{subject_of, IsOpen}
use Rattle.flow_core.specs.Refusals.{completing_test}
use Rattle.flow_core.proofs.Admitting.{between, once_passed}
use Rattle.flow_core.proofs.state.Core.allows_done.Goals as goal

pub returns-clause-opened : goal.returns-clause-opened
returns-clause-opened c = λ item known. once_passed (IsOpen c.args.self.now item) c.may_complete.result c.passes.result c.passes.ensures.passed (c.may_complete.ensures.opened item known)

pub returns-clause-due : goal.returns-clause-due
returns-clause-due c = λ item.
    between (completing_test c.args.who.now (subject_of c.args.known.now)) c.passes.result (c.if-not-is_declared.ensures.0 refl) (sym c.if-not-settings_fit.ensures)
    (c.passes.ensures.told (completing_test c.args.who.now (subject_of c.args.known.now)) c.may_complete.ensures.stops)
