-- What a SIGNAL gives.
use Rattle.std.proofs.Common.{◌≡◌, ℕ, ◌<◌, Bool, true, false, List, [], ◌∷◌, ◌++◌, length, Option, Some, None, refl, ap, ◌∙◌, subst, arith}
use Rattle.std.specs.Prelude.{slice_get, is_none}
use Rattle.std.specs.List.{list_any}
use Rattle.activity_states.specs.States.{made_ready}
use Rattle.blocks_subprocs.specs.Ends.{ends_of}
use Rattle.dead_paths.specs.Tallies.{Counts}
use Rattle.dead_paths.specs.declared.joins.Tally.{Tally}
use Rattle.fate_laws.specs.WellFormed.{Well}
use Rattle.flow_model.specs.Fates.{Ends, joined, ended}
use Rattle.flow_model.specs.ScopeContainers.{base_of, graph_in}
use Rattle.flow_model.specs.Scopes.{Known, at, values_at, attempts, fate_given, output, tree_ends}
use Rattle.flow_model.specs.declared.graphs.Activity.{Activity}
use Rattle.flow_model.specs.declared.graphs.Container.{Container}
use Rattle.flow_model.specs.declared.graphs.Graph.{Graph, out-Graph}
use Rattle.flow_model.specs.declared.graphs.Join.{Join}
use Rattle.flow_model.specs.declared.graphs.Template.{Template}
use Rattle.flow_model.specs.declared.instances.Fate.TheVariants.{Waiting}
use Rattle.flow_model.specs.declared.instances.Part.{Part}
use Rattle.flow_model.specs.declared.instances.Path.{Path}
use Rattle.flow_model.specs.declared.instances.SourceEnd.TheVariants as end
use Rattle.flow_model.specs.declared.names.Name.{Name}
use Rattle.navigator.proofs.DueParts.{scopes_in}
use Rattle.navigator.proofs.FreshHere.{IsGivenAt}
use Rattle.navigator.proofs.OneGiven.{IsOf, still_given, state_given, settled_given, next_given}
use Rattle.navigator.proofs.Places.{present}
use Rattle.navigator.proofs.SameActivities.{step_is, simple_of}
use Rattle.navigator.proofs.SettledHere.{targets_of}
use Rattle.navigator.proofs.ShownAgain.{IsSameInside}
use Rattle.navigator.proofs.SignalValues.{IsTold, value_told}
use Rattle.navigator.specs.Events.{nothing, Receives, Signals}
use Rattle.view_laws.specs.NextEvents.{Aimed}
use Rattle.navigator.specs.Reading.{place_of}
use Rattle.navigator.specs.Serving.{Served}
use Rattle.navigator.specs.Steps.{Told, Fields, fields, changed_at, settled, at_stage, dead_state, Begins, Opens, Decides, TakesSignal}
use Rattle.navigator.specs.Views.{Shows}
use Rattle.navigator.specs.declared.scopes.ActivityState.{ActivityState, Program, Nested}
use Rattle.navigator.specs.declared.scopes.NestedStage.TheVariants as stages
use Rattle.navigator.specs.declared.scopes.NestedState.{NestedState, out-NestedState, out-roll-NestedState}
use Rattle.navigator.specs.declared.scopes.ScopeState.{ScopeState, out-ScopeState}
use Rattle.view_laws.specs.Coming.{IsByMessages, MaySignal}
use Rattle.view_laws.specs.Learning.{with_signal}

dead_scopes : (n : NestedState) → (out-NestedState (at_stage stages.Dead n)).scopes.items ≡ (out-NestedState n).scopes.items
dead_scopes n = rw out-roll-NestedState refl

dead_same : (state : ActivityState) → scopes_in (dead_state state) ≡ scopes_in state
dead_same (Program p) = refl
dead_same (Nested n) = dead_scopes n

unknown_any : (xs ys : List (Option Bool)) → list_any is_none (xs ++ None ∷ ys) ≡ true
unknown_any [] ys = refl
unknown_any (None ∷ xs) ys = refl
unknown_any (Some v ∷ xs) ys = unknown_any xs ys

unknown_joined : (rule : Join) (xs ys : List (Option Bool)) → joined rule (xs ++ None ∷ ys) ≡ None
unknown_joined rule xs ys = rw (unknown_any xs ys) refl

same_signalled : (a b : ℕ) (v : Bool) (k : Known) (r : Part) → IsSameInside (at r k) (at r (with_signal a b v k))
same_signalled a b v k r = record { most = refl; begun = refl; sent = refl; below = λ p. refl }

module _ (ts : List Template) (depth : ℕ) (k : Known) (g : Graph) (input : Container) (s s' : ScopeState) (path : Path) (clock : ℕ) (tells : Told) (a b : ℕ) (v : Bool) (name : Name)
    (well : Well ts depth g) (served : Served ts depth g) (aimed : Aimed ts depth g) (messages : IsByMessages k) (may : MaySignal ts depth k g input a b v) (place : place_of g name ≡ Some b)
    (shows : Shows ts depth k g input s) (shows_then : Shows ts depth (with_signal a b v k) g input s') (receives : Receives ts path clock (Signals name v) nothing tells g s s') where
  abbrev k' : Known
  k' = with_signal a b v k

  abbrev e : Ends
  e = tree_ends ts depth k g input

  within : b < length (out-Graph g).activities
  within = let target = targets_of ts depth g aimed may.number may.connector may.among in let to = may.to in omega arith

  found : (activity : Activity) × (slice_get (out-Graph g).activities b ≡ Some activity)
  found = present (out-Graph g).activities b within

  abbrev activity : Activity
  activity = found.0

  tally : (t : Tally) × (slice_get (fields s).tallies b ≡ Some t)
  tally = let w = within in let l = shows.tallied in present (fields s).tallies b (omega arith)

  state : (st : ActivityState) × (slice_get (out-ScopeState s).states.items b ≡ Some st)
  state = let w = within in let l = shows.stated in present (out-ScopeState s).states.items b (omega arith)

  told : IsTold v (values_at k (out-Graph g).controls e b) (values_at k' (out-Graph g).controls e b)
  told = value_told k a b v messages may.unsent (out-Graph g).controls e e may.number may.connector (simple_of ts depth g well) may.among may.from may.to

  takes : TakesSignal ts g path clock b activity (told.before ++ Some v ∷ told.behind) (fields s) (fields s') nothing tells
  takes = receives b activity tally.0 told.before told.behind place found.1 tally.1 (subst (λ vs. Counts tally.0 vs) told.old (shows.tallies b tally.0 tally.1))

  of : IsOf s takes.middle
  of = record {
    begun = ap (λ (f : Fields). f.begun) takes.takes.scope;
    ends = ap (λ (f : Fields). f.ends) takes.takes.scope;
    states = ap (λ (f : Fields). f.states) takes.takes.scope;
    unsettled = ap (λ (f : Fields). f.unsettled) takes.takes.scope;
  }

  stands : slice_get takes.middle.states b ≡ Some state.0
  stands = ap (λ l. slice_get l b) of.states ∙ state.1

  was : e b ≡ end.Unsettled
  was =
      let unknown : joined activity.join (values_at k (out-Graph g).controls e b) ≡ None
      = ap (joined activity.join) told.old ∙ unknown_joined activity.join told.before told.behind in
      let waits : fate_given ts k (output ts depth) g input e b ≡ Waiting = rw (may.begun, found.1) (rw unknown refl) in
      step_is ts depth k g input well b ∙ ap (λ f. ended f (attempts ts k (output ts depth) g input e b)) waits

  opened : (st : ActivityState) → slice_get (out-ScopeState s).states.items b ≡ Some st → Opens ts g path clock b activity (Some st) takes.middle (fields s') nothing tells
      → IsGivenAt ts depth k k' g input path tells
  opened (Program p) at is =
      state_given ts depth k k' g input s s' path tells well served aimed shows shows_then (same_signalled a b v k) b activity found.1 takes.middle of (Program p) at
      (Program (made_ready p clock)) refl is.0 (ap (λ (t : Told). t.signals) is.1) (ap (λ (t : Told). t.begins) is.1) (ap (λ (t : Told). t.ends) is.1)
  opened (Nested n) at is = go (graph_in ts activity.work) refl is
    where
      go : (o : Option Graph) → graph_in ts activity.work ≡ o
          → Begins o (base_of g activity b takes.middle.input (ends_of takes.middle.ends)) path b activity (Nested n) takes.middle (fields s') nothing tells → IsGivenAt ts depth k k' g input path tells
      go None none begins = still_given ts depth k k' g input s s' path tells well served aimed shows shows_then (same_signalled a b v k) b activity found.1 takes.middle of begins.0 begins.1
      go (Some h) runs begins =
          next_given ts depth k k' g input s s' path tells well served aimed shows shows_then (same_signalled a b v k) b activity found.1 takes.middle of n at h _ runs begins

  decided : (o : Option Bool) → Decides ts g path clock b activity o takes.middle (fields s') nothing tells → IsGivenAt ts depth k k' g input path tells
  decided None is = still_given ts depth k k' g input s s' path tells well served aimed shows shows_then (same_signalled a b v k) b activity found.1 takes.middle of is.0 is.1
  decided (Some true) is = opened state.0 state.1 (subst (λ o. Opens ts g path clock b activity o takes.middle (fields s') nothing tells) stands is)
  decided (Some false) is =
      settled_given ts depth k k' g input s s' path tells well served aimed shows shows_then (same_signalled a b v k) b activity found.1 takes.middle of state.0 state.1
      end.Dead (dead_state state.0) (dead_same state.0) was (shows.begun ∙ may.begun)
      (is.0 ∙ ap (λ o. settled b end.Dead (changed_at dead_state b o takes.middle)) stands) is.1

  -- what a SIGNAL gives
  pub signal_given : IsGivenAt ts depth k k' g input path tells
  signal_given = decided (joined activity.join (told.before ++ Some v ∷ told.behind)) takes.decides
