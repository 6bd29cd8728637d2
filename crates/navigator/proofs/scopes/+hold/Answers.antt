use Rattle.std.proofs.Common.{◌≡◌, Some, refl, ap, sym, ◌∙◌, subst}
use Rattle.std.specs.Prelude.{slice_get}
use Rattle.std.specs.Vec.{with_item}
use Rattle.flow_model.specs.ScopeContainers.{graph_in}
use Rattle.navigator.specs.Showing.{StaysShownWork}
use Rattle.navigator.specs.declared.scopes.ActivityState.{ActivityState, Nested}
use Rattle.navigator.specs.declared.scopes.NestedState.{out-NestedState, out-roll-NestedState}
use Rattle.navigator.specs.declared.scopes.ScopeState.{ScopeState, out-ScopeState, roll-ScopeState}
use Rattle.navigator.proofs.Held.{stays_by_state, nested_stays, work_stays, activity_stays}
use Rattle.navigator.proofs.Places.{same_at}
use Rattle.navigator.proofs.scopes.+hold.Goals as goal

pub ActivityState::change_hold-returns-in-Nested-clause-shows : goal.ActivityState::change_hold-returns-in-Nested-clause-shows
ActivityState::change_hold-returns-in-Nested-clause-shows t c =
    let was = c.in-Nested.is in
    let self_is : c.args.self.now ≡ Nested c.in-Nested.state = cc in
    subst (λ (x : ActivityState). StaysShownWork c.args.library.now.templates c.args.graph.now x (Nested c.change_hold.new.self)) (sym self_is)
    (work_stays c.args.library.now.templates c.args.graph.now c.in-Nested.state c.change_hold.new.self c.change_hold.ensures.shows)

pub NestedState::change_hold-returns-in-Some-clause-shows : goal.NestedState::change_hold-returns-in-Some-clause-shows
NestedState::change_hold-returns-in-Some-clause-shows t c =
    nested_stays c.args.library.now.templates c.args.graph.now c.args.self.now _ c.args.attempt c.in-Some.scope.now c.change_hold.new.self c.in-Some.ensures.value
    (rw out-roll-NestedState refl) (rw out-roll-NestedState refl) c.change_hold.ensures.shows

pub ScopeState::change_hold-returns-in-empty-clause-shows : goal.ScopeState::change_hold-returns-in-empty-clause-shows
ScopeState::change_hold-returns-in-empty-clause-shows t c = c.change_hold_here.ensures.shows c.args.library.now.templates

pub ScopeState::change_hold_inside-returns-in-Some-get_mut-clause-shows : goal.ScopeState::change_hold_inside-returns-in-Some-get_mut-clause-shows
ScopeState::change_hold_inside-returns-in-Some-get_mut-clause-shows t c =
    let ts = c.args.library.now.templates in
    let g = c.args.graph.now in
    let after : ScopeState = roll-ScopeState (record (out-ScopeState c.args.self.now) { states = with_item (out-ScopeState c.args.self.now).states c.in-Some.place c.change_hold.new.self }) in
    let runs = c.in-Some-Some.ensures in
    let inner : graph_in ts c.in-Some-get.activity.now.work ≡ Some c.in-Some-Some.inner.now = cc in
    stays_by_state ts g c.args.self.now after c.in-Some.place c.in-Some-get_mut.state.now c.change_hold.new.self c.in-Some-get_mut.ensures.value refl
    (λ depth k input activity is was.
    let in_graph : slice_get c.as_slice.result.now c.in-Some.place ≡ Some activity = ap (λ xs. slice_get xs c.in-Some.place) c.as_slice.ensures ∙ is in
    let activity_is : c.in-Some-get.activity.now ≡ activity = same_at c.as_slice.result.now c.in-Some.place activity c.in-Some-get.activity.now in_graph c.in-Some-get.ensures.lookup.1 in
    let of : graph_in ts activity.work ≡ Some c.in-Some-Some.inner.now = rw activity_is at inner in
    activity_stays ts c.in-Some-Some.inner.now depth k activity.work activity.name _ _ _ c.in-Some-get_mut.state.now c.change_hold.new.self of c.change_hold.ensures.shows was)

pub ActivityState::change_hold-returns-in-Nested-clause-sets : goal.ActivityState::change_hold-returns-in-Nested-clause-sets
ActivityState::change_hold-returns-in-Nested-clause-sets t c = λ n is inner there.
    let was = c.in-Nested.is in
    let same : c.in-Nested.state ≡ n = cc in
    rw (← same) (c.change_hold.ensures.sets inner (rw same there))

pub NestedState::change_hold-returns-in-Some-clause-sets : goal.NestedState::change_hold-returns-in-Some-clause-sets
NestedState::change_hold-returns-in-Some-clause-sets t c = λ inner there.
    let same : c.in-Some.scope.now ≡ inner = same_at (out-NestedState c.args.self.now).scopes.items c.args.attempt inner c.in-Some.scope.now there c.in-Some.ensures.value in
    record {
      next = c.change_hold.new.self;
      changes = rw (← same) c.change_hold.ensures.sets;
      scopes = rw out-roll-NestedState refl;
      stage = rw out-roll-NestedState refl;
    }

pub ScopeState::change_hold_inside-returns-in-Some-get_mut-clause-sets : goal.ScopeState::change_hold_inside-returns-in-Some-get_mut-clause-sets
ScopeState::change_hold_inside-returns-in-Some-get_mut-clause-sets t c = λ a i activity h n inner named here runs counted at there.
    let known = c.in-Some.ensures in
    let place_is : c.in-Some.place ≡ a = cc in
    let in_graph : slice_get c.as_slice.result.now c.in-Some.place ≡ Some activity = rw (c.as_slice.ensures, place_is) here in
    let activity_is : c.in-Some-get.activity.now ≡ activity = same_at c.as_slice.result.now c.in-Some.place activity c.in-Some-get.activity.now in_graph c.in-Some-get.ensures.lookup.1 in
    let state_at : slice_get (out-ScopeState c.args.self.now).states.items c.in-Some.place ≡ Some (Nested n) = rw place_is at in
    let state_is : c.in-Some-get_mut.state.now ≡ Nested n
    = same_at (out-ScopeState c.args.self.now).states.items c.in-Some.place (Nested n) c.in-Some-get_mut.state.now state_at c.in-Some-get_mut.ensures.value in
    let graph_found = rw activity_is at c.in-Some-Some.ensures in
    let graph_is : c.in-Some-Some.inner.now ≡ h = cc in
    let attempt_found = c.in-Some-Some.ensures' in
    let attempt_is : c.in-Some-Some.attempt ≡ i = cc in
    record {
      state = c.change_hold.new.self;
      inside = rw (← graph_is, ← attempt_is) (c.change_hold.ensures.sets n state_is inner (rw attempt_is there));
      around = rw (← place_is) refl;
    }
