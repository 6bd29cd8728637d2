-- A scope begins: its activities are decided one by one, and no tally changes.
use Rattle.std.proofs.Common.{◌≡◌, ℕ, zero, suc, ◌+◌, ◌<◌, Bool, true, false, List, Option, Some, None, refl, ap, ◌∙◌, subst, arith}
use Rattle.std.specs.Prelude.{slice_get}
use Rattle.dead_paths.specs.declared.joins.Tally.{Tally}
use Rattle.flow_model.specs.Fates.{joined}
use Rattle.flow_model.specs.ScopeContainers.{graph_in}
use Rattle.flow_model.specs.declared.graphs.Activity.{Activity}
use Rattle.flow_model.specs.declared.graphs.Container.{Container}
use Rattle.flow_model.specs.declared.graphs.Graph.{Graph, out-Graph}
use Rattle.flow_model.specs.declared.graphs.Template.{Template}
use Rattle.flow_model.specs.declared.instances.Path.{Path}
use Rattle.navigator.specs.Steps.{Fields, Told, Begins, Opens, Decides, DecidesFirst, dead_state, changed_at}
use Rattle.navigator.specs.declared.scopes.ActivityState.{ActivityState, Program, Nested}

abbrev tallies_of : Fields → List Tally
tallies_of f = f.tallies

begins_tallies : (h : Option Graph) (input : Container) (path : Path) (a : ℕ) (activity : Activity) (was : ActivityState) (old new : Fields) (before after : Told)
    → Begins h input path a activity was old new before after → new.tallies ≡ old.tallies
begins_tallies None input path a activity was old new before after is = ap tallies_of is.0
begins_tallies (Some h) input path a activity was old new before after is = ap tallies_of is.scope

opens_tallies : (ts : List Template) (g : Graph) (path : Path) (clock a : ℕ) (activity : Activity) (state : Option ActivityState) (old new : Fields) (before after : Told)
    → Opens ts g path clock a activity state old new before after → new.tallies ≡ old.tallies
opens_tallies ts g path clock a activity None old new before after is = ap tallies_of is.0
opens_tallies ts g path clock a activity (Some (Program p)) old new before after is = ap tallies_of is.0
opens_tallies ts g path clock a activity (Some (Nested n)) old new before after is =
    begins_tallies (graph_in ts activity.work) _ path a activity (Nested n) old new before after is

changed_tallies : (change : ActivityState → ActivityState) (a : ℕ) (state : Option ActivityState) (f : Fields) → (changed_at change a state f).tallies ≡ f.tallies
changed_tallies change a None f = refl
changed_tallies change a (Some state) f = refl

decides_tallies : (ts : List Template) (g : Graph) (path : Path) (clock a : ℕ) (activity : Activity) (v : Option Bool) (old new : Fields) (before after : Told)
    → Decides ts g path clock a activity v old new before after → new.tallies ≡ old.tallies
decides_tallies ts g path clock a activity None old new before after is = ap tallies_of is.0
decides_tallies ts g path clock a activity (Some true) old new before after is = opens_tallies ts g path clock a activity (slice_get old.states a) old new before after is
decides_tallies ts g path clock a activity (Some false) old new before after is = ap tallies_of is.0 ∙ changed_tallies dead_state a (slice_get old.states a) old

module _ (ts : List Template) (g : Graph) (path : Path) (clock : ℕ) (values : ℕ → List (Option Bool)) where
  -- one more activity is decided
  pub first_more : (n : ℕ) (old middle new : Fields) (before so_far after : Told) → DecidesFirst ts g path clock values n old middle before so_far
      → ((activity : Activity) → slice_get (out-Graph g).activities n ≡ Some activity → Decides ts g path clock n activity (joined activity.join (values n)) middle new so_far after)
      → DecidesFirst ts g path clock values (n + 1) old new before after
  first_more n old middle new before so_far after first next =
      let e : suc n ≡ n + 1 = omega arith in
      subst (λ (m : ℕ). DecidesFirst ts g path clock values m old new before after) e (record { middle = middle; so_far = so_far; before = first; decides = next })

  -- the tallies stay
  pub first_tallies : (n : ℕ) (old new : Fields) (before after : Told) → ((a : ℕ) → a < n → (activity : Activity) × (slice_get (out-Graph g).activities a ≡ Some activity))
      → DecidesFirst ts g path clock values n old new before after → new.tallies ≡ old.tallies
  first_tallies zero old new before after there is = ap tallies_of is.0
  first_tallies (suc n) old new before after there is =
      let found = there n (omega arith) in
      decides_tallies ts g path clock n found.0 (joined found.0.join (values n)) is.middle new is.so_far after (is.decides found.0 found.1)
      ∙ first_tallies n old is.middle before is.so_far (λ a less. there a (omega arith)) is.before
