-- The scope of an attempt inside a scope, which shows its view where that one does.
use Rattle.std.proofs.Common.{◌≡◌, ℕ, ◌<◌, List, length, Some, ap, sym, ◌∙◌, subst, arith}
use Rattle.std.specs.Prelude.{slice_get, option_and_then}
use Rattle.std.proofs.lemmas.Option.{slice_get_within}
use Rattle.flow_model.specs.ScopeContainers.{graph_in}
use Rattle.flow_model.specs.Scopes.{Known, at, part, Start, attempts, fate_given, output, tree_ends}
use Rattle.flow_model.specs.declared.graphs.Activity.{Activity}
use Rattle.flow_model.specs.declared.graphs.Container.{Container}
use Rattle.flow_model.specs.declared.graphs.Graph.{Graph, out-Graph}
use Rattle.flow_model.specs.declared.graphs.Template.{Template}
use Rattle.flow_model.specs.declared.graphs.Work.{Work, Program as RunsProgram, Block, Process}
use Rattle.flow_model.specs.declared.instances.Fate.{Fate}
use Rattle.flow_model.specs.declared.instances.Part.{Part}
use Rattle.navigator.proofs.EndedScopes.{nested_state}
use Rattle.navigator.proofs.Leading.{started_place}
use Rattle.navigator.proofs.Places.{present}
use Rattle.navigator.proofs.SameActivities.{Named, place_found}
use Rattle.navigator.specs.Reading.{place_of, attempt_place, scope_of, inner_of}
use Rattle.navigator.specs.Steps.{fields}
use Rattle.navigator.specs.Views.{ShowsStart, ShowsNested, ShowsWork, ShowsWithin, shows_attempt, Shows}
use Rattle.navigator.specs.declared.scopes.ActivityState.{ActivityState, Nested}
use Rattle.navigator.specs.declared.scopes.NestedState.{NestedState, out-NestedState}
use Rattle.navigator.specs.declared.scopes.ScopeState.{ScopeState}
use Rattle.view_laws.specs.Coming.{started_in}

-- the scope of an attempt inside a scope
pub record IsInside (ts : List Template) (g : Graph) (s : ScopeState) (x : Part) (h : Graph) (inner : ScopeState) : Type 0 where
  pub place : ℕ
  pub number : ℕ
  pub activity : Activity
  pub nested : NestedState
  pub named : place_of g x.name ≡ Some place
  pub is : slice_get (out-Graph g).activities place ≡ Some activity
  pub runs : graph_in ts activity.work ≡ Some h
  pub counted : attempt_place x.attempt ≡ Some number
  pub stated : slice_get (fields s).states place ≡ Some (Nested nested)
  pub found : slice_get (out-NestedState nested).scopes.items number ≡ Some inner

-- the scope of the attempt
pub inner_is : (s : ScopeState) (a j number : ℕ) (n : NestedState) (t : ScopeState) → slice_get (fields s).states a ≡ Some (Nested n) → attempt_place j ≡ Some number
    → slice_get (out-NestedState n).scopes.items number ≡ Some t → inner_of s a j ≡ Some t
inner_is s a j number n t stated counted found =
    ap (option_and_then (λ (y : ActivityState). scope_of y j)) stated ∙ ap (option_and_then (slice_get (out-NestedState n).scopes.items)) counted ∙ found

pub scoped : (ts : List Template) (g : Graph) (s : ScopeState) (x : Part) (h : Graph) (t : ScopeState) (inside : IsInside ts g s x h t) → inner_of s inside.place x.attempt ≡ Some t
scoped ts g s x h t inside = inner_is s inside.place x.attempt inside.number inside.nested t inside.stated inside.counted inside.found

-- ---- an attempt that has started

-- the state of its activity has its scope, which shows its view
pub record HasScope (ts : List Template) (depth : ℕ) (k : Known) (g : Graph) (s : ScopeState) (q : Part) (a number : ℕ) (h : Graph) (start : Start) : Type 0 where
  pub nested : NestedState
  pub inner : ScopeState
  pub named : place_of g q.name ≡ Some a
  pub counted : attempt_place q.attempt ≡ Some number
  pub stated : slice_get (fields s).states a ≡ Some (Nested nested)
  pub found : slice_get (out-NestedState nested).scopes.items number ≡ Some inner
  pub shows : ShowsWithin ts depth (at q k) h start.input inner

-- of the scopes that show the attempts that have started, this one
scope_among : (ts : List Template) (depth : ℕ) (k : Known) (g : Graph) (s : ScopeState) (q : Part) (a number : ℕ) (activity : Activity) (h : Graph) (start : Start) (starts : List Start) (fate : Fate) (n : NestedState)
    → place_of g q.name ≡ Some a → attempt_place q.attempt ≡ Some number → graph_in ts activity.work ≡ Some h → part activity.name start.attempt ≡ q → slice_get starts number ≡ Some start
    → slice_get (fields s).states a ≡ Some (Nested n) → ShowsNested fate starts (shows_attempt (ShowsWithin ts depth) k activity.name (graph_in ts activity.work)) n → HasScope ts depth k g s q a number h start
scope_among ts depth k g s q a number activity h start starts fate n named counted of this started stated nested =
    let within : number < length starts = slice_get_within starts number start started in
    let less : number < length (out-NestedState n).scopes.items = omega (arith, nested.count) in
    let inner = present (out-NestedState n).scopes.items number less in
    let shown : shows_attempt (ShowsWithin ts depth) k activity.name (Some h) start inner.0
    = subst (λ o. shows_attempt (ShowsWithin ts depth) k activity.name o start inner.0) of (nested.scopes number start inner.0 started inner.1) in
    record {
      nested = n;
      inner = inner.0;
      named = named;
      counted = counted;
      stated = stated;
      found = inner.1;
      shows = subst (λ (p : Part). ShowsWithin ts depth (at p k) h start.input inner.0) this shown;
    }

pub started_scope : (ts : List Template) (depth : ℕ) (k : Known) (g : Graph) (input : Container) (s : ScopeState) (q : Part) (a : ℕ) (activity : Activity) (number : ℕ) (start : Start) (h : Graph)
    → Named g → Shows ts depth k g input s → slice_get (out-Graph g).activities a ≡ Some activity → graph_in ts activity.work ≡ Some h → part activity.name start.attempt ≡ q
    → slice_get (started_in ts depth k g input a activity) number ≡ Some start → HasScope ts depth k g s q a number h start
started_scope ts depth k g input s q a activity number start h names shows is of this started =
    let less : a < length (out-Graph g).activities = slice_get_within (out-Graph g).activities a activity is in
    let stated : a < length (fields s).states = omega (arith, shows.stated) in
    let was = present (fields s).states a stated in
    let fate = fate_given ts k (output ts depth) g input (tree_ends ts depth k g input) a in
    let starts = started_in ts depth k g input a activity in
    let nested = nested_state ts h activity.work fate (attempts ts k (output ts depth) g input (tree_ends ts depth k g input) a) starts
    (shows_attempt (ShowsWithin ts depth) k activity.name (graph_in ts activity.work)) was.0 of (shows.states a activity was.0 is was.1) in
    let named : place_of g q.name ≡ Some a = ap (λ (r : Part). place_of g r.name) (sym this) ∙ place_found g a activity names is in
    let counted : attempt_place q.attempt ≡ Some number
    = ap attempt_place (ap (λ (r : Part). r.attempt) (sym this)) ∙ started_place ts k (output ts depth) g input (tree_ends ts depth k g input) a activity number start started in
    scope_among ts depth k g s q a number activity h start starts fate nested.0 named counted of this started (was.1 ∙ ap Some nested.1) nested.2

pub inside_started : (ts : List Template) (depth : ℕ) (k : Known) (g : Graph) (s : ScopeState) (q : Part) (a : ℕ) (activity : Activity) (number : ℕ) (start : Start) (h : Graph)
    → slice_get (out-Graph g).activities a ≡ Some activity → graph_in ts activity.work ≡ Some h → (has : HasScope ts depth k g s q a number h start) → IsInside ts g s q h has.inner
inside_started ts depth k g s q a activity number start h is of has = record {
  place = a;
  number = number;
  activity = activity;
  nested = has.nested;
  named = has.named;
  is = is;
  runs = of;
  counted = has.counted;
  stated = has.stated;
  found = has.found;
}

-- ---- a scope that is there

-- a block or process activity has a state with scopes
pub shown_nested : (w : Work) (fate : Fate) (outs : List Container) (starts : List Start) (shows : ShowsStart) (n : NestedState) → ShowsWork w fate outs starts shows (Nested n) → ShowsNested fate starts shows n
shown_nested (RunsProgram w) fate outs starts shows n is = absurd is
shown_nested (Block g) fate outs starts shows n is = is
shown_nested (Process t) fate outs starts shows n is = is

-- a scope at a place is that of an attempt that has started there
pub record StartedAt (ts : List Template) (depth : ℕ) (k : Known) (g : Graph) (input : Container) (a : ℕ) (activity : Activity) (i : ℕ) (h : Graph) (t : ScopeState) : Type 0 where
  pub start : Start
  pub started : slice_get (started_in ts depth k g input a activity) i ≡ Some start
  pub shows : ShowsWithin ts depth (at (part activity.name start.attempt) k) h start.input t

started_among : (ts : List Template) (depth : ℕ) (k : Known) (g : Graph) (input : Container) (a : ℕ) (activity : Activity) (h : Graph) (fate : Fate) (n : NestedState) (i : ℕ) (t : ScopeState)
    → graph_in ts activity.work ≡ Some h → ShowsNested fate (started_in ts depth k g input a activity) (shows_attempt (ShowsWithin ts depth) k activity.name (graph_in ts activity.work)) n
    → slice_get (out-NestedState n).scopes.items i ≡ Some t → StartedAt ts depth k g input a activity i h t
started_among ts depth k g input a activity h fate n i t runs nested found =
    let less : i < length (out-NestedState n).scopes.items = slice_get_within (out-NestedState n).scopes.items i t found in
    let start = present (started_in ts depth k g input a activity) i (omega (arith, nested.count)) in
    record { start = start.0; started = start.1; shows = subst (λ o. shows_attempt (ShowsWithin ts depth) k activity.name o start.0 t) runs (nested.scopes i start.0 t start.1 found) }

pub started_at_place : (ts : List Template) (depth : ℕ) (k : Known) (g : Graph) (input : Container) (s : ScopeState) (a : ℕ) (activity : Activity) (h : Graph) (n : NestedState) (i : ℕ) (t : ScopeState)
    → Shows ts depth k g input s → slice_get (out-Graph g).activities a ≡ Some activity → graph_in ts activity.work ≡ Some h → slice_get (fields s).states a ≡ Some (Nested n)
    → slice_get (out-NestedState n).scopes.items i ≡ Some t → StartedAt ts depth k g input a activity i h t
started_at_place ts depth k g input s a activity h n i t shows is runs stated found =
    started_among ts depth k g input a activity h (fate_given ts k (output ts depth) g input (tree_ends ts depth k g input) a) n i t runs
    (shown_nested activity.work (fate_given ts k (output ts depth) g input (tree_ends ts depth k g input) a) (attempts ts k (output ts depth) g input (tree_ends ts depth k g input) a) (started_in ts depth k g input a activity)
    (shows_attempt (ShowsWithin ts depth) k activity.name (graph_in ts activity.work)) n (shows.states a activity (Nested n) is stated))
    found
