use Rattle.std.proofs.Common.{Some, refl, sym, ap}
use Rattle.flow_core.specs.Allowing.{subject_of}
use Rattle.flow_core.specs.Refusals.{person_of, transfer_test}
use Rattle.flow_core.proofs.Admitting.{behind_two, is_declared}
use Rattle.flow_core.proofs.Refusing.{told_as}
use Rattle.flow_core.proofs.state.Core.allows_transfer.Goals as goal

pub returns-in-Some : goal.returns-in-Some
returns-in-Some c = λ item.
    let at = c.args.self.now in
    let s = subject_of c.args.known.now in
    let from = c.args.from.now in
    let to = c.args.to.now in
    let person = c.in-Some.person.now in
    behind_two (transfer_test from (person_of at to) s) c.passes.result (c.if-not-is_person.ensures.0 refl) (is_declared at to person c.in-Some.ensures)
    (c.passes.ensures.told (transfer_test from (person_of at to) s)
    (told_as c.may_transfer.result (transfer_test from (person_of at to) s) (transfer_test from (Some person) s) (ap (λ o. transfer_test from o s) (sym c.in-Some.ensures)) c.may_transfer.ensures))
