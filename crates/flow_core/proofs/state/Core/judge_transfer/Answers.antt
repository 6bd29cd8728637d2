use Rattle.std.proofs.Common.{Some, None, [], ◌∷◌, ap}
use Rattle.std.proofs.lemmas.Result.{err_from_is_err_and}
use Rattle.flow_core.specs.Allowing.{subject_of}
use Rattle.flow_core.specs.Refusals.{first_of, full_test, person_of, person_test, transfer_test}
use Rattle.flow_core.proofs.Refusing.{here, later_stop, both_passed, told_as, as_item, at_item, people_stop}
use Rattle.flow_core.proofs.state.Core.judge_transfer.Goals as goal

pub returns-in_err-needs_person-clause-stops : goal.returns-in_err-needs_person-clause-stops
returns-in_err-needs_person-clause-stops c =
    let at = c.args.self.now in
    let p = err_from_is_err_and c.from_residual-in_err-needs_person.result c.from_residual-in_err-needs_person.ensures.1 in
    people_stop at (first_of (person_test at c.args.from.now ∷ person_test at c.args.to.now ∷ [])) c.args.token.now (transfer_test c.args.from.now (person_of at c.args.to.now)) c.in_ok-found.found c.from_residual-in_err-needs_person.result p.0 c.in_err-needs_person.field-0.0 p.1 p.2 c.in_ok-found.ensures
    (here c.in_err-needs_person.field-0.0 (person_test at c.args.from.now) (first_of (person_test at c.args.to.now ∷ [])) c.in_err-needs_person.ensures.stops)

pub returns-in_err-person-clause-stops : goal.returns-in_err-person-clause-stops
returns-in_err-person-clause-stops c =
    let at = c.args.self.now in
    let p = err_from_is_err_and c.from_residual-in_err-person.result c.from_residual-in_err-person.ensures.1 in
    people_stop at (first_of (person_test at c.args.from.now ∷ person_test at c.args.to.now ∷ [])) c.args.token.now (transfer_test c.args.from.now (person_of at c.args.to.now)) c.in_ok-found.found c.from_residual-in_err-person.result p.0 c.in_err-person.field-0.0 p.1 p.2 c.in_ok-found.ensures
    (later_stop c.in_err-person.field-0.0 (person_test at c.args.from.now) (first_of (person_test at c.args.to.now ∷ [])) c.in_ok-needs_person.ensures.stops (here c.in_err-person.field-0.0 (person_test at c.args.to.now) None c.in_err-person.ensures.stops))

pub returns-clause-stops : goal.returns-clause-stops
returns-clause-stops c =
    let at = c.args.self.now in
    as_item at (first_of (person_test at c.args.from.now ∷ person_test at c.args.to.now ∷ [])) c.args.token.now (transfer_test c.args.from.now (person_of at c.args.to.now)) c.in_ok-found.found c.transfer_item.result c.in_ok-found.ensures
    (at_item at (first_of (person_test at c.args.from.now ∷ person_test at c.args.to.now ∷ [])) c.args.token.now (transfer_test c.args.from.now (person_of at c.args.to.now)) c.in_ok-found.found c.in_ok-item.item c.transfer_item.result (both_passed (person_test at c.args.from.now) (person_test at c.args.to.now) c.in_ok-needs_person.ensures.stops c.in_ok-person.ensures.stops) c.in_ok-item.ensures.there
    (told_as c.transfer_item.result (first_of (transfer_test c.args.from.now (person_of at c.args.to.now) (subject_of c.in_ok-item.item.known) ∷ full_test at ∷ [])) (first_of (transfer_test c.args.from.now (Some c.in_ok-person.person.now) (subject_of c.in_ok-item.item.known) ∷ full_test at ∷ []))
    (ap (λ person. first_of (transfer_test c.args.from.now person (subject_of c.in_ok-item.item.known) ∷ full_test at ∷ [])) c.in_ok-person.ensures.person) c.transfer_item.ensures.stops))
