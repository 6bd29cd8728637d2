use Rattle.std.proofs.Common.{◌≡◌, List, Some, refl, subst}
use Rattle.std.specs.Prelude.{slice_get}
use Rattle.flow_model.specs.declared.graphs.Graph.{Graph}
use Rattle.flow_model.specs.declared.instances.Part.{Part}
use Rattle.navigator.specs.Events.{happening, IsUsable, Receives, ChangesAt}
use Rattle.navigator.specs.Steps.{told}
use Rattle.navigator.specs.declared.scopes.ActivityState.{Nested}
use Rattle.navigator.specs.declared.scopes.NestedState.{out-NestedState, out-roll-NestedState}
use Rattle.navigator.specs.declared.scopes.ScopeState.{ScopeState, out-ScopeState}
use Rattle.navigator.proofs.Places.{same_at, first_and_rest}
use Rattle.navigator.proofs.scopes.+change.Goals as goal

pub ActivityState::change_inner-returns-in_ok-change_scope-in-Nested : goal.ActivityState::change_inner-returns-in_ok-change_scope-in-Nested
ActivityState::change_inner-returns-in_ok-change_scope-in-Nested t c = λ n is inner there.
    let was = c.in-Nested.is in
    let same : c.in-Nested.state ≡ n = cc in
    rw (← same) (c.in_ok-change_scope-in-Nested.ensures inner (rw same there))

pub NestedState::change_scope-returns-in_ok-change-in-Some : goal.NestedState::change_scope-returns-in_ok-change-in-Some
NestedState::change_scope-returns-in_ok-change-in-Some t c = λ inner there.
    let same : c.in-Some.scope.now ≡ inner = same_at (out-NestedState c.args.self.now).scopes.items c.args.attempt inner c.in-Some.scope.now there c.in-Some.ensures.value in
    record {
      next = c.change.new.self;
      changes = rw (← same) c.in_ok-change-in-Some.ensures;
      scopes = rw out-roll-NestedState refl;
      stage = rw out-roll-NestedState refl;
    }

pub ScopeState::change-returns-in_ok-change_inside-in-len1-up : goal.ScopeState::change-returns-in_ok-change_inside-in-len1-up
ScopeState::change-returns-in_ok-change_inside-in-len1-up t c =
    let parts = first_and_rest c.args.parts.now c.part-item.result c.in-len1-up.len_at_least c.part-item.is in
    let ts = c.args.with.library.now.templates in
    let change = λ (g : Graph) (s s' : ScopeState). IsUsable g
    → Receives ts c.args.path.now c.args.with.clock (happening c.args.event) (told c.args.effects.now) (told c.change_inside.new.effects) g s s' in
    subst (λ (ps : List Part). ChangesAt ts change ps c.args.graph.now c.args.self.now c.change_inside.new.self) parts c.in_ok-change_inside-in-len1-up.ensures

pub ScopeState::change_inside-returns-in_ok-change_inner-in-Some-get_mut : goal.ScopeState::change_inside-returns-in_ok-change_inner-in-Some-get_mut
ScopeState::change_inside-returns-in_ok-change_inner-in-Some-get_mut t c = λ a i activity h n inner named here runs counted at there.
    let known = c.in-Some.ensures in
    let place_is : c.in-Some.place ≡ a = cc in
    let in_graph : slice_get c.as_slice.result.now c.in-Some.place ≡ Some activity = rw (c.as_slice.ensures, place_is) here in
    let activity_is : c.in-Some-get.activity.now ≡ activity = same_at c.as_slice.result.now c.in-Some.place activity c.in-Some-get.activity.now in_graph c.in-Some-get.ensures.lookup.1 in
    let state_at : slice_get (out-ScopeState c.args.self.now).states.items c.in-Some.place ≡ Some (Nested n) = rw place_is at in
    let state_is : c.in-Some-get_mut.state.now ≡ Nested n
    = same_at (out-ScopeState c.args.self.now).states.items c.in-Some.place (Nested n) c.in-Some-get_mut.state.now state_at c.in-Some-get_mut.ensures.value in
    let graph_found = rw activity_is at c.in-Some-Some.ensures in
    let graph_is : c.in-Some-Some.inner.now ≡ h = cc in
    let attempt_found = c.in-Some-Some.ensures' in
    let attempt_is : c.in-Some-Some.attempt ≡ i = cc in
    record {
      state = c.change_inner.new.self;
      inside = rw (← graph_is, ← attempt_is) (c.in_ok-change_inner-in-Some-get_mut.ensures n state_is inner (rw attempt_is there));
      around = rw (← place_is) refl;
    }
