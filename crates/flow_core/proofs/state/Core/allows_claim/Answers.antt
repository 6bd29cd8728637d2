use Rattle.std.proofs.Common.{Some, sym, ap}
use Rattle.flow_core.specs.Allowing.{subject_of}
use Rattle.flow_core.specs.Refusals.{person_of, claim_test}
use Rattle.flow_core.proofs.Admitting.{behind, is_declared}
use Rattle.flow_core.proofs.Refusing.{told_as}
use Rattle.flow_core.proofs.state.Core.allows_claim.Goals as goal

pub returns-in-Some : goal.returns-in-Some
returns-in-Some c = λ item.
    let at = c.args.self.now in
    let s = subject_of c.args.known.now in
    let who = c.args.who.now in
    let person = c.in-Some.person.now in
    behind (claim_test (person_of at who) s) c.passes.result (is_declared at who person c.in-Some.ensures)
    (c.passes.ensures.told (claim_test (person_of at who) s)
    (told_as c.may_claim.result (claim_test (person_of at who) s) (claim_test (Some person) s) (ap (λ o. claim_test o s) (sym c.in-Some.ensures)) c.may_claim.ensures))
