-- A scope that hasn't begun has no open item.
use Rattle.std.proofs.Common.{◌≡◌, ℕ, zero, suc, List, [], ◌∷◌, Option, Some, None, refl, ap, ◌∙◌}
use Rattle.std.specs.Prelude.{slice_get, option_and_then}
use Rattle.flow_model.specs.ScopeContainers.{graph_in}
use Rattle.flow_model.specs.declared.graphs.Activity.{Activity}
use Rattle.flow_model.specs.declared.graphs.Container.{Container}
use Rattle.flow_model.specs.declared.graphs.Graph.{Graph, out-Graph}
use Rattle.flow_model.specs.declared.graphs.Template.{Template}
use Rattle.flow_model.specs.declared.graphs.Work.{Work, Program as RunsProgram, Block, Process}
use Rattle.flow_model.specs.declared.instances.Part.{Part}
use Rattle.item_laws.proofs.OpenScopes.{open_inside, open_in, open_is, unbegun_here}
use Rattle.item_laws.specs.OpenItems.{NoneOpen}
use Rattle.navigator.specs.Fresh.{IsFreshWork, IsFresh}
use Rattle.navigator.specs.Reading.{place_of, scope_of}
use Rattle.navigator.specs.Steps.{fields}
use Rattle.navigator.specs.declared.scopes.ActivityState.{ActivityState, Program, Nested}
use Rattle.navigator.specs.declared.scopes.NestedState.{NestedState, out-NestedState}
use Rattle.navigator.specs.declared.scopes.ScopeState.{ScopeState}

-- without a scope nothing is open there
pub no_scope : (ts : List Template) (o : Option Graph) (item : List Part) → open_inside ts o None item ≡ None
no_scope ts None item = refl
no_scope ts (Some h) item = refl

-- a block or process activity with no scope
pub scopes_none : (n : NestedState) (j : ℕ) → (out-NestedState n).scopes.items ≡ [] → scope_of (Nested n) j ≡ None
scopes_none n zero none = refl
scopes_none n (suc j) none = ap (λ (ss : List ScopeState). slice_get ss j) none

fresh_scopes : (w : Work) (state : ActivityState) (j : ℕ) → IsFreshWork w state → scope_of state j ≡ None
fresh_scopes (RunsProgram w) (Program p) j is = refl
fresh_scopes (RunsProgram w) (Nested n) j is = absurd is
fresh_scopes (Block g) (Program p) j is = absurd is
fresh_scopes (Block g) (Nested n) j is = scopes_none n j is.scopes
fresh_scopes (Process t) (Program p) j is = absurd is
fresh_scopes (Process t) (Nested n) j is = scopes_none n j is.scopes

-- nothing is open below activities that have no scopes
module _ (ts : List Template) (g : Graph) (states : List ActivityState)
    (each : (a : ℕ) (activity : Activity) (state : ActivityState) → slice_get (out-Graph g).activities a ≡ Some activity → slice_get states a ≡ Some state → (j : ℕ) → scope_of state j ≡ None) where
  pub below_none : (q : Part) (item : List Part)
      → option_and_then (λ a. option_and_then (λ activity. open_inside ts (graph_in ts activity.work) (option_and_then (λ state. scope_of state q.attempt) (slice_get states a)) item) (slice_get (out-Graph g).activities a)) (place_of g q.name) ≡ None
  below_none q item = by (place_of g q.name)
    where
      at : (a : ℕ) (activity : Activity) → slice_get (out-Graph g).activities a ≡ Some activity → (state : Option ActivityState) → slice_get states a ≡ state
          → open_inside ts (graph_in ts activity.work) (option_and_then (λ x. scope_of x q.attempt) state) item ≡ None
      at a activity is None there = no_scope ts (graph_in ts activity.work) item
      at a activity is (Some state) there = ap (λ o. open_inside ts (graph_in ts activity.work) o item) (each a activity state is there q.attempt) ∙ no_scope ts (graph_in ts activity.work) item

      of : (a : ℕ) (activity : Option Activity) → slice_get (out-Graph g).activities a ≡ activity
          → option_and_then (λ x. open_inside ts (graph_in ts x.work) (option_and_then (λ state. scope_of state q.attempt) (slice_get states a)) item) activity ≡ None
      of a None is = refl
      of a (Some activity) is = at a activity is (slice_get states a) refl

      by : (o : Option ℕ) → option_and_then (λ a. option_and_then (λ activity. open_inside ts (graph_in ts activity.work) (option_and_then (λ state. scope_of state q.attempt) (slice_get states a)) item) (slice_get (out-Graph g).activities a)) o ≡ None
      by None = refl
      by (Some a) = of a (slice_get (out-Graph g).activities a) refl

pub fresh_none : (ts : List Template) (g : Graph) (input : Container) (s : ScopeState) → IsFresh g input s → NoneOpen ts g s
fresh_none ts g input s fresh item = open_is ts g s item ∙ by item
  where
    by : (item : List Part) → open_in ts g (fields s) item ≡ None
    by [] = refl
    by (q ∷ []) = unbegun_here g q (fields s) fresh.begun
    by (q ∷ (r ∷ rs)) = below_none ts g (fields s).states (λ a activity state is there j. fresh_scopes activity.work state j (fresh.states a activity state is there)) q (r ∷ rs)
