-- An item that is there has its scope.
use Rattle.std.proofs.Common.{◌≡◌, ℕ, List, [], ◌∷◌, Option, Some, None, option_and_then, refl, ap, ◌∙◌}
use Rattle.std.specs.Prelude.{slice_get}
use Rattle.flow_model.specs.ScopeContainers.{graph_in}
use Rattle.flow_model.specs.declared.graphs.Graph.{Graph, out-Graph}
use Rattle.flow_model.specs.declared.graphs.Template.{Template}
use Rattle.flow_model.specs.declared.instances.Part.{Part}
use Rattle.machine.specs.Moves as m
use Rattle.navigator.specs.Items.{Entry, Stand, stand, both, into, into_place, entry_at}
use Rattle.navigator.specs.Reading.{place_of, attempt_place, scope_of, inner_of}
use Rattle.navigator.specs.Steps.{fields}
use Rattle.navigator.specs.declared.scopes.ActivityState.{ActivityState, Program, Nested}
use Rattle.navigator.specs.declared.scopes.NestedState.{NestedState, out-NestedState}
use Rattle.navigator.specs.declared.scopes.ScopeState.{ScopeState}
use Rattle.machine_scopes.specs.Seen.{Leads, Along}
use Rattle.machine_scopes.specs.Turns.{MeetsHold}

then_some : {X Y : Type 0} (f : X → Option Y) (o : Option X) (y : Y) → option_and_then f o ≡ Some y → (x : X)
    × (o ≡ Some x) × (f x ≡ Some y)
then_some f None y is = let never : None ≡ Some y = is in cc
then_some f (Some x) y is = (x, refl, is)

both_some : (g : Option Graph) (s : Option ScopeState) (at : Stand) → both g s ≡ Some at → (g ≡ Some at.graph)
    × (s ≡ Some at.scope)
both_some None s at is = let never : None ≡ Some at = is in cc
both_some (Some g) None at is = let never : None ≡ Some at = is in cc
both_some (Some g) (Some s) at is =
    let same : stand g s ≡ at = cc in (ap (λ (x : Stand). Some x.graph) same, ap (λ (x : Stand). Some x.scope) same)

scope_there : (state : ActivityState) (j : ℕ) (inner : ScopeState) → scope_of state j ≡ Some inner → (n : NestedState)
    × (i : ℕ) × (state ≡ Nested n) × (attempt_place j ≡ Some i)
    × (slice_get (out-NestedState n).scopes.items i ≡ Some inner)
scope_there (Program p) j inner is = let never : None ≡ Some inner = is in cc
scope_there (Nested n) j inner is =
    let found = then_some (slice_get (out-NestedState n).scopes.items) (attempt_place j) inner is in
    (n, found.0, refl, found.1, found.2)

module _ (ts : List Template) (q : Part) (g : Graph) (s : ScopeState) (at : Stand)
    (is : into ts (stand g s) q ≡ Some at) (P : Graph → ScopeState → Type 0) (behind : P at.graph at.scope) where
  leads : Leads ts q g s P
  leads =
      let place = then_some (into_place ts (stand g s) q.attempt) (place_of g q.name) at is in
      let activity = then_some (λ activity. both (graph_in ts activity.work) (inner_of s place.0 q.attempt))
      (slice_get (out-Graph g).activities place.0) at place.2 in
      let one = both_some (graph_in ts activity.0.work) (inner_of s place.0 q.attempt) at activity.2 in
      let state = then_some (λ state. scope_of state q.attempt) (slice_get (fields s).states place.0) at.scope one.1 in
      let nested = scope_there state.0 q.attempt at.scope state.2 in
      record {
        place = place.0;
        attempt = nested.1;
        activity = activity.0;
        graph = at.graph;
        nested = nested.0;
        inner = at.scope;
        named = place.1;
        there = activity.1;
        runs = one.0;
        counted = nested.3;
        stands = state.1 ∙ ap Some nested.2;
        has = nested.4;
        behind = behind;
      }

pub hold_met : (ts : List Template) (item : List Part) (g : Graph) (s : ScopeState) (e : Entry)
    → entry_at ts item (stand g s) ≡ Some e → MeetsHold ts item g s
hold_met ts [] g s e is = let never : None ≡ Some e = is in cc
hold_met ts (q ∷ []) g s e is = record { last = q; is = refl; along = tt }
hold_met ts (q ∷ (r ∷ qs)) g s e is =
    let at = then_some (entry_at ts (r ∷ qs)) (into ts (stand g s) q) e is in
    let rest = hold_met ts (r ∷ qs) at.0.graph at.0.scope e at.2 in
    record {
      last = rest.last;
      is = rest.is;
      along = leads ts q g s at.0 at.1 (Along ts (λ h t. Unit {0}) (m.front_parts (r ∷ qs))) rest.along;
    }
