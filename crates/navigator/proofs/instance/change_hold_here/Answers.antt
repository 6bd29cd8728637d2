use Rattle.std.proofs.Common.{refl}
use Rattle.std.specs.Vec.{with_item}
use Rattle.navigator.specs.declared.scopes.ScopeState.{ScopeState, out-ScopeState, roll-ScopeState}
use Rattle.navigator.proofs.Held.{stays_by_state}
use Rattle.navigator.proofs.instance.change_hold_here.Goals as goal

pub returns-in-Some-get_mut-clause-shows : goal.returns-in-Some-get_mut-clause-shows
returns-in-Some-get_mut-clause-shows c = λ ts.
    let state = c.change_own_hold.new.self in
    let was = out-ScopeState c.args.scope.now in
    let after : ScopeState = roll-ScopeState (record was { states = with_item was.states c.in-Some.place state }) in
    stays_by_state ts c.args.graph.now c.args.scope.now after c.in-Some.place c.in-Some-get_mut.state.now state c.in-Some-get_mut.ensures.value refl
    (λ depth k input activity is was. c.change_own_hold.ensures.shows ts activity.work depth k activity.name _ _ _ _ was)
