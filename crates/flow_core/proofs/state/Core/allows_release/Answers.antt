use Rattle.std.proofs.Common.{refl}
use Rattle.flow_core.specs.Allowing.{subject_of}
use Rattle.flow_core.specs.Refusals.{release_test}
use Rattle.flow_core.proofs.Admitting.{behind}
use Rattle.flow_core.proofs.state.Core.allows_release.Goals as goal

pub returns : goal.returns
returns c = λ item.
    behind (release_test c.args.who.now (subject_of c.args.known.now)) c.passes.result (c.if-not-is_person.ensures.0 refl) (c.passes.ensures.told (release_test c.args.who.now (subject_of c.args.known.now)) c.may_release.ensures)
