use Rattle.std.proofs.Common.{Some, [], ◌∷◌, ap}
use Rattle.std.proofs.lemmas.Result.{err_from_is_err_and}
use Rattle.flow_core.specs.Allowing.{subject_of}
use Rattle.flow_core.specs.Refusals.{first_of, full_test, person_of, person_test, claim_test}
use Rattle.flow_core.proofs.Refusing.{told_as, as_item, at_item, people_stop}
use Rattle.flow_core.proofs.state.Core.judge_claim.Goals as goal

pub returns-in_err-person-clause-stops : goal.returns-in_err-person-clause-stops
returns-in_err-person-clause-stops c =
    let at = c.args.self.now in
    let p = err_from_is_err_and c.from_residual-in_err-person.result c.from_residual-in_err-person.ensures.1 in
    people_stop at (person_test at c.args.name.now) c.args.token.now (claim_test (person_of at c.args.name.now)) c.in_ok-found.found c.from_residual-in_err-person.result p.0 c.in_err-person.field-0.0 p.1 p.2 c.in_ok-found.ensures
    c.in_err-person.ensures.stops

pub returns-clause-stops : goal.returns-clause-stops
returns-clause-stops c =
    let at = c.args.self.now in
    as_item at (person_test at c.args.name.now) c.args.token.now (claim_test (person_of at c.args.name.now)) c.in_ok-found.found c.claim_item.result c.in_ok-found.ensures
    (at_item at (person_test at c.args.name.now) c.args.token.now (claim_test (person_of at c.args.name.now)) c.in_ok-found.found c.in_ok-item.item c.claim_item.result c.in_ok-person.ensures.stops c.in_ok-item.ensures.there
    (told_as c.claim_item.result (first_of (claim_test (person_of at c.args.name.now) (subject_of c.in_ok-item.item.known) ∷ full_test at ∷ [])) (first_of (claim_test (Some c.in_ok-person.person.now) (subject_of c.in_ok-item.item.known) ∷ full_test at ∷ []))
    (ap (λ person. first_of (claim_test person (subject_of c.in_ok-item.item.known) ∷ full_test at ∷ [])) c.in_ok-person.ensures.person) c.claim_item.ensures.stops))
