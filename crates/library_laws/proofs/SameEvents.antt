-- What an event does to a scope it does in a larger library too, and so a scope comes along its run there.
use Rattle.std.proofs.Common.{◌≡◌, ℕ, zero, suc, Bool, true, false, List, [], ◌∷◌, Option, Some, None, sym, ◌∙◌, subst}
use Rattle.std.specs.Prelude.{slice_get}
use Rattle.flow_model.specs.Fates.{joined}
use Rattle.flow_model.specs.ScopeContainers.{graph_in}
use Rattle.flow_model.specs.declared.graphs.Activity.{Activity}
use Rattle.flow_model.specs.declared.graphs.Container.{Container}
use Rattle.flow_model.specs.declared.graphs.Graph.{Graph, out-Graph}
use Rattle.flow_model.specs.declared.graphs.Template.{Template}
use Rattle.flow_model.specs.declared.instances.Fact.{Fact}
use Rattle.flow_model.specs.declared.instances.Message.{Message}
use Rattle.flow_model.specs.declared.instances.Message.TheVariants.{Begin, Signal, End}
use Rattle.flow_model.specs.declared.instances.Part.{Part}
use Rattle.flow_model.specs.declared.instances.Path.{Path}
use Rattle.navigator.specs.Driven.{DoesTurn, DoesComplete, Does, Driven, IsDriven}
use Rattle.navigator.specs.Events.{IsUsable, Happening, Begins, Signals, Ends, Completes, Receives, ChangesState, ChangesInside, ChangesAt, Happens, Takes, nothing}
use Rattle.navigator.specs.Serving.{Served}
use Rattle.navigator.specs.Steps.{Fields, Told, Opens, Decides, DecidesFirst, Begins as BeginsScope}
use Rattle.navigator.specs.declared.scopes.ActivityState.{ActivityState, Program, Nested}
use Rattle.navigator.specs.declared.scopes.NestedState.{NestedState}
use Rattle.navigator.specs.declared.scopes.ScopeState.{ScopeState}
use Rattle.view_laws.specs.Messages.{Note}
use Rattle.view_laws.specs.Runs.{Root, Event, Started, Turned, Completed, Held, Stopped}
use Rattle.library_laws.proofs.SameDue.{note_same}
use Rattle.library_laws.proofs.SameForm.{root_form}
use Rattle.library_laws.proofs.SameGraphs.{HasSameGraphs, ServedInside, same_graphs}
use Rattle.library_laws.proofs.SameRuns.{run_kept}
use Rattle.library_laws.proofs.SameViews.{view_kept}
use Rattle.library_laws.specs.Larger.{Agrees, moved}

-- ---- the scope that receives the event

module _ (ts ts' : List Template) (g : Graph) (inner : Graph → Type 0) (inside : HasSameGraphs ts ts' g inner) (path : Path) (clock : ℕ) where
  begins_kept : (o o' : Option Graph) → o' ≡ o → (input : Container) (a : ℕ) (activity : Activity) (state : ActivityState) (old new : Fields) (before after : Told)
      → BeginsScope o input path a activity state old new before after → BeginsScope o' input path a activity state old new before after
  begins_kept o o' same input a activity state old new before after begins =
      subst (λ x. BeginsScope x input path a activity state old new before after) (sym same) begins

  opens_kept : (a : ℕ) (activity : Activity) → slice_get (out-Graph g).activities a ≡ Some activity → (state : Option ActivityState) (old new : Fields) (before after : Told)
      → Opens ts g path clock a activity state old new before after → Opens ts' g path clock a activity state old new before after
  opens_kept a activity is None old new before after opens = opens
  opens_kept a activity is (Some (Program p)) old new before after opens = opens
  opens_kept a activity is (Some (Nested n)) old new before after opens =
      begins_kept (graph_in ts activity.work) (graph_in ts' activity.work) (inside.graphs a activity is) _ a activity (Nested n) old new before after opens

  decides_kept : (a : ℕ) (activity : Activity) → slice_get (out-Graph g).activities a ≡ Some activity → (v : Option Bool) (old new : Fields) (before after : Told)
      → Decides ts g path clock a activity v old new before after → Decides ts' g path clock a activity v old new before after
  decides_kept a activity is None old new before after decides = decides
  decides_kept a activity is (Some true) old new before after decides = opens_kept a activity is (slice_get old.states a) old new before after decides
  decides_kept a activity is (Some false) old new before after decides = decides

  first_kept : (values : ℕ → List (Option Bool)) (n : ℕ) (old new : Fields) (before after : Told)
      → DecidesFirst ts g path clock values n old new before after → DecidesFirst ts' g path clock values n old new before after
  first_kept values zero old new before after is = is
  first_kept values (suc n) old new before after is = record {
    middle = is.middle;
    so_far = is.so_far;
    before = first_kept values n old is.middle before is.so_far is.before;
    decides = λ activity there. decides_kept n activity there (joined activity.join (values n)) is.middle new is.so_far after (is.decides activity there);
  }

  receives_kept : (event : Happening) (before after : Told) (s s' : ScopeState)
      → Receives ts path clock event before after g s s' → Receives ts' path clock event before after g s s'
  receives_kept Begins before after s s' is = λ values tallied. first_kept values _ _ _ before after (is values tallied)
  receives_kept (Signals name v) before after s s' is = λ a activity t xs ys found there tally counts.
      let taken = is a activity t xs ys found there tally counts in
      record { middle = taken.middle; takes = taken.takes; decides = decides_kept a activity there _ taken.middle _ before after taken.decides }
  receives_kept (Ends name j) before after s s' is = λ a activity was h scope found there state of sinks now.
      is a activity was h scope found there state (sym (inside.graphs a activity there) ∙ of) sinks now
  receives_kept (Completes name c) before after s s' is = is

-- ---- the scopes around it

state_changes : (change change' : ScopeState → ScopeState → Type 0) → ((t t' : ScopeState) → change t t' → change' t t') → (i : ℕ) (scope : ScopeState) (n : NestedState) (state : ActivityState)
    → ChangesState change i scope n state → ChangesState change' i scope n state
state_changes change change' more i scope n (Program p) is = is
state_changes change change' more i scope n (Nested n') is = record { next = is.next; changes = more scope is.next is.changes; scopes = is.scopes; stage = is.stage }

inside_changes : (change change' : ScopeState → ScopeState → Type 0) → ((t t' : ScopeState) → change t t' → change' t t') → (a i : ℕ) (scope : ScopeState) (n : NestedState) (s s' : ScopeState)
    → ChangesInside change a i scope n s s' → ChangesInside change' a i scope n s s'
inside_changes change change' more a i scope n s s' is =
    record { state = is.state; inside = state_changes change change' more i scope n is.state is.inside; around = is.around }

module _ (ts ts' : List Template) (agrees : Agrees ts ts') (path : Path) (clock : ℕ) (event : Happening) (after : Told) where
  abbrev change : List Template → Graph → ScopeState → ScopeState → Type 0
  change us h t t' = IsUsable h → Receives us path clock event nothing after h t t'

  changes_kept : (qs : List Part) (levels : ℕ) (g : Graph) → ServedInside ts levels g → (s s' : ScopeState)
      → ChangesAt ts (change ts) qs g s s' → ChangesAt ts' (change ts') qs g s s'
  changes_kept qs zero g served s s' is = absurd served
  changes_kept [] (suc levels) g served s s' is = λ usable.
      receives_kept ts ts' g (ServedInside ts levels) (same_graphs ts ts' levels g agrees served) path clock event nothing after s s' (is usable)
  changes_kept (q ∷ qs) (suc levels) g served s s' is = λ a i activity h n scope found there of place state now.
      let same : HasSameGraphs ts ts' g (ServedInside ts levels) = same_graphs ts ts' levels g agrees served in
      let was : graph_in ts activity.work ≡ Some h = sym (same.graphs a activity there) ∙ of in
      inside_changes (ChangesAt ts (change ts) qs h) (ChangesAt ts' (change ts') qs h)
      (λ t t' c. changes_kept qs levels h (same.inside a activity there h was) t t' c) a i scope n s s'
      (is a i activity h n scope found there was place state now)

-- ---- a root

module _ (ts ts' : List Template) (levels : ℕ) (g : Graph) (agrees : Agrees ts ts') (served : Served ts levels g) where
  happens_kept : (path : Path) (clock : ℕ) (event : Happening) (s s' : ScopeState) (given : List Message) (items : List Path)
      → Happens ts path clock event g s s' given items → Happens ts' path clock event g s s' given items
  happens_kept path clock event s s' given items is = record {
    tells = is.tells;
    changes = changes_kept ts ts' agrees path clock event is.tells path.parts (suc levels) g served s s' is.changes;
    messages = is.messages;
    ready = is.ready;
  }

  takes_kept : (clock : ℕ) (message : Message) (s s' : ScopeState) (given : List Message) (items : List Path)
      → Takes ts clock message g s s' given items → Takes ts' clock message g s s' given items
  takes_kept clock (Begin path) s s' given items is = happens_kept path clock Begins s s' given items is
  takes_kept clock (Signal path from to v) s s' given items is = happens_kept path clock (Signals to v) s s' given items is
  takes_kept clock (End path) s s' given items is = λ parts q named.
      happens_kept (record { root = path.root; parts = parts }) clock (Ends q.name q.attempt) s s' given items (is parts q named)

module _ (ts' : List Template) (r : Root) (agrees : Agrees r.templates ts') (served : Served r.templates r.depth r.graph) where
  turn_kept : (m : Note) (s s' : ScopeState) (given : List Message) → DoesTurn r m s s' given → DoesTurn (moved ts' r) m s s' given
  turn_kept m s s' given is =
      (is.0, is.1, is.2, note_same r.templates ts' r.depth r.graph agrees served is.1 ∙ is.3, takes_kept r.templates ts' r.depth r.graph agrees served is.0 is.1 s s' given is.2 is.4)

  completion_kept : (f : Fact) (s s' : ScopeState) (given : List Message) → DoesComplete r f s s' given → DoesComplete (moved ts' r) f s s' given
  completion_kept f s s' given is = (
    is.0,
    is.1,
    is.2,
    is.3,
    λ around q named.
        happens_kept r.templates ts' r.depth r.graph agrees served (record { root = f.item.root; parts = around }) is.0 (Completes q.name is.1) s s' given is.2 (is.4 around q named),
  )

  does_kept : (e : Event) (s s' : ScopeState) → Does r e s s' → Does (moved ts' r) e s s'
  does_kept Started s s' is = is
  does_kept (Turned m) s s' is = (is.0, turn_kept m s s' is.0 is.1)
  does_kept (Completed f) s s' is = (is.0, completion_kept f s s' is.0 is.1)
  does_kept (Held p b) s s' is = λ depth k input shows.
      (view_kept r.templates ts' r.depth depth k r.graph input s' agrees served).there
      (is depth k input ((view_kept r.templates ts' r.depth depth k r.graph input s agrees served).back shows))
  does_kept Stopped s s' is = is

  scope_driven : (h : List Event) (s : ScopeState) → Driven r h s → Driven (moved ts' r) h s
  scope_driven [] s is = is
  scope_driven (e ∷ h) s is = (is.0, scope_driven h is.0 is.1, does_kept e is.0 s is.2)

pub driven_kept : (ts' : List Template) (r : Root) (q : Note → ℕ) (h : List Event) (s : ScopeState) → Agrees r.templates ts' → IsDriven r q h s → IsDriven (moved ts' r) q h s
driven_kept ts' r q h s agrees is = record {
  root = root_form ts' r agrees is.root;
  legal = run_kept ts' r q h agrees is.root.served is.legal;
  runs = is.runs;
  driven = scope_driven ts' r agrees is.root.served h s is.driven;
}
