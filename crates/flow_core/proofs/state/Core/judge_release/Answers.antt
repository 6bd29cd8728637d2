use Rattle.std.proofs.lemmas.Result.{err_from_is_err_and}
use Rattle.flow_core.specs.Refusals.{person_test, release_test}
use Rattle.flow_core.proofs.Refusing.{as_item, at_item, people_stop}
use Rattle.flow_core.proofs.state.Core.judge_release.Goals as goal

pub returns-in_err-needs_person-clause-stops : goal.returns-in_err-needs_person-clause-stops
returns-in_err-needs_person-clause-stops c =
    let at = c.args.self.now in
    let p = err_from_is_err_and c.from_residual-in_err-needs_person.result c.from_residual-in_err-needs_person.ensures.1 in
    people_stop at (person_test at c.args.name.now) c.args.token.now (release_test c.args.name.now) c.in_ok-found.found c.from_residual-in_err-needs_person.result p.0 c.in_err-needs_person.field-0.0 p.1 p.2 c.in_ok-found.ensures
    c.in_err-needs_person.ensures.stops

pub returns-clause-stops : goal.returns-clause-stops
returns-clause-stops c =
    let at = c.args.self.now in
    as_item at (person_test at c.args.name.now) c.args.token.now (release_test c.args.name.now) c.in_ok-found.found c.release_item.result c.in_ok-found.ensures
    (at_item at (person_test at c.args.name.now) c.args.token.now (release_test c.args.name.now) c.in_ok-found.found c.in_ok-item.item c.release_item.result c.in_ok-needs_person.ensures.stops c.in_ok-item.ensures.there
    c.release_item.ensures.stops)
