use Rattle.std.proofs.Common.{[], ◌∷◌}
use Rattle.std.proofs.lemmas.Result.{err_from_is_err_and}
use Rattle.flow_core.specs.Refusals.{first_of, who_test, completing_test, outcome_test}
use Rattle.flow_core.proofs.Refusing.{as_item, at_item, people_stop, done_for, done_allowed}
use Rattle.flow_core.proofs.state.Core.judge_done.Goals as goal

pub returns-in_err-needs_who-clause-stops : goal.returns-in_err-needs_who-clause-stops
returns-in_err-needs_who-clause-stops c =
    let at = c.args.self.now in
    let p = err_from_is_err_and c.from_residual-in_err-needs_who.result c.from_residual-in_err-needs_who.ensures.1 in
    people_stop at (who_test at c.args.who.now) c.args.token.now (λ s. first_of (completing_test c.args.who.now s ∷ outcome_test c.args.outcome.now s ∷ [])) c.in_ok-found.found c.from_residual-in_err-needs_who.result p.0 c.in_err-needs_who.field-0.0 p.1 p.2 c.in_ok-found.ensures
    c.in_err-needs_who.ensures

pub returns-clause-made : goal.returns-clause-made
returns-clause-made c =
    done_for c.args.self.now c.args.token.now c.in_ok-found.found c.in_ok-item.item c.args.who.now c.args.outcome.now c.done_item.result c.in_ok-found.ensures c.in_ok-item.ensures.there c.done_item.ensures.made

pub returns-clause-allowed : goal.returns-clause-allowed
returns-clause-allowed c = done_allowed c.args.self.now c.in_ok-item.item c.args.who.now c.args.outcome.now c.done_item.result c.done_item.ensures.made c.done_item.ensures.opened

pub returns-clause-stops : goal.returns-clause-stops
returns-clause-stops c =
    let at = c.args.self.now in
    as_item at (who_test at c.args.who.now) c.args.token.now (λ s. first_of (completing_test c.args.who.now s ∷ outcome_test c.args.outcome.now s ∷ [])) c.in_ok-found.found c.done_item.result c.in_ok-found.ensures
    (at_item at (who_test at c.args.who.now) c.args.token.now (λ s. first_of (completing_test c.args.who.now s ∷ outcome_test c.args.outcome.now s ∷ [])) c.in_ok-found.found c.in_ok-item.item c.done_item.result c.in_ok-needs_who.ensures c.in_ok-item.ensures.there
    c.done_item.ensures.stops)
