use Rattle.std.proofs.Common.{[], ◌∷◌, None, refl}
use Rattle.flow_core.specs.Refusals.{first_of, forcing_test, outcome_test}
use Rattle.flow_core.proofs.Refusing.{as_item, at_item, force_for, force_allowed}
use Rattle.flow_core.proofs.state.Core.judge_force.Goals as goal

pub returns-clause-made : goal.returns-clause-made
returns-clause-made c =
    force_for c.args.self.now c.args.token.now c.in_ok-found.found c.in_ok-item.item c.args.outcome.now c.force_item.result c.in_ok-found.ensures c.in_ok-item.ensures.there c.force_item.ensures.made

pub returns-clause-allowed : goal.returns-clause-allowed
returns-clause-allowed c = force_allowed c.args.self.now c.in_ok-item.item c.args.outcome.now c.force_item.result c.force_item.ensures.made c.force_item.ensures.opened

pub returns-clause-stops : goal.returns-clause-stops
returns-clause-stops c =
    let at = c.args.self.now in
    as_item at (None) c.args.token.now (λ s. first_of (forcing_test s ∷ outcome_test c.args.outcome.now s ∷ [])) c.in_ok-found.found c.force_item.result c.in_ok-found.ensures
    (at_item at (None) c.args.token.now (λ s. first_of (forcing_test s ∷ outcome_test c.args.outcome.now s ∷ [])) c.in_ok-found.found c.in_ok-item.item c.force_item.result (refl) c.in_ok-item.ensures.there
    c.force_item.ensures.stops)
