-- What the END of an attempt gives.
use Rattle.std.proofs.Common.{◌≡◌, ℕ, zero, suc, ◌+◌, Bool, true, false, ◌&&◌, List, [], ◌∷◌, length, Option, Some, None, cond, refl, ap, sym, ◌∙◌, arith, inl, inr}
use Rattle.std.specs.Prelude.{slice_get}
use Rattle.std.specs.List.{last_or}
use Rattle.std.proofs.lemmas.Option.{slice_get_within}
use Rattle.fate_laws.proofs.Attempts.{closed}
use Rattle.fate_laws.proofs.Extends.{and_true}
use Rattle.fate_laws.specs.StartedScopes.{Reaches}
use Rattle.fate_laws.specs.WellFormed.{Well}
use Rattle.flow_model.specs.Conditions.{holds}
use Rattle.flow_model.specs.Fates.{Ends, goes_on, fate_by, ended, is_open}
use Rattle.flow_model.specs.ScopeContainers.{base_of, graph_in}
use Rattle.flow_model.specs.Scopes.{Known, at, Runs, Gives, Trial, tries, scope_gives, gives, is_fed, trial, attempts, fate_given, output, tree_ends}
use Rattle.flow_model.specs.declared.graphs.Activity.{Activity}
use Rattle.flow_model.specs.declared.graphs.Container.{Container}
use Rattle.flow_model.specs.declared.graphs.Expr.{Expr}
use Rattle.flow_model.specs.declared.graphs.Graph.{Graph, out-Graph}
use Rattle.flow_model.specs.declared.graphs.Template.{Template}
use Rattle.flow_model.specs.declared.graphs.Work.{Work, Program as RunsProgram, Block, Process}
use Rattle.flow_model.specs.declared.instances.Part.{Part}
use Rattle.flow_model.specs.declared.instances.Path.{Path}
use Rattle.flow_model.specs.declared.instances.SourceEnd.TheVariants as end
use Rattle.navigator.proofs.EndedScopes.{nested_state, gives_scope, HasRows, rows_inside}
use Rattle.navigator.proofs.FreshHere.{IsGivenAt}
use Rattle.navigator.proofs.MoreAttempts.{reached_start}
use Rattle.navigator.proofs.NextAttempt.{IsOpened, opened_is}
use Rattle.navigator.proofs.OneGiven.{IsOf, settled_given, next_given}
use Rattle.navigator.proofs.Places.{present}
use Rattle.navigator.proofs.RowLists.{started_numbered}
use Rattle.navigator.proofs.SameActivities.{step_is, named_of, place_found}
use Rattle.navigator.proofs.ShownAgain.{IsSameInside}
use Rattle.navigator.specs.Events.{nothing, Receives, Ends as Ending}
use Rattle.view_laws.specs.NextEvents.{Aimed}
use Rattle.navigator.specs.Reading.{place_of, inner_of}
use Rattle.navigator.specs.Serving.{Served}
use Rattle.navigator.specs.Steps.{Told, fields, changed_at, settled, EndsBy, given_by, finished_state, at_stage}
use Rattle.navigator.specs.declared.scopes.NestedStage.TheVariants as stages
use Rattle.navigator.specs.Views.{ShowsNested, ShowsWithin, shows_attempt, Shows}
use Rattle.navigator.specs.declared.scopes.ActivityState.{ActivityState, Nested}
use Rattle.navigator.specs.declared.scopes.NestedState.{NestedState, out-NestedState, out-roll-NestedState}
use Rattle.navigator.specs.declared.scopes.ScopeState.{ScopeState, out-ScopeState}
use Rattle.view_laws.specs.Coming.{started_in, MayEnd}
use Rattle.view_laws.specs.Learning.{with_end}

-- ---- an activity of which an attempt gives nothing yet

more_goes : (exit : Option Expr) (x : Container) (rest : List Container) → holds exit x ≡ false → closed exit rest ≡ false → closed exit (x ∷ rest) ≡ false
more_goes exit x [] fails goes = fails
more_goes exit x (y ∷ ys) fails goes = goes

-- its attempts haven't ended
goes_still : (n : ℕ) (give : Gives) (t : Trial) (j : ℕ) (input : Container) (c : ℕ) (x : Container) → Reaches (suc n) give t j input c x → ((i : Container) → give c i ≡ None)
    → closed t.exit (tries n give t j input) ≡ false
goes_still zero give t j input c x reach none = refl
goes_still (suc n) give t j input c x (inl at) none = let here : give j input ≡ None = ap (λ m. give m input) at.0 ∙ none input in rw here refl
goes_still (suc n) give t j input c x (inr on) none =
    let rest = goes_still n give t (j + 1) (t.loops on.0) c x on.3 none in
    rw (on.1, on.2) (more_goes t.exit on.0 (tries n give t (j + 1) (t.loops on.0)) on.2 rest)

some_last : (x : Container) (xs : List Container) → (y : Container) × (last_or (Some x) xs ≡ Some y)
some_last x [] = (x, refl)
some_last x (y ∷ ys) = some_last y ys

open_end : (w : Work) (n : ℕ) (outs : List Container) → ended (goes_on w n) outs ≡ end.Unsettled
open_end (RunsProgram p) n outs = refl
open_end (Block g) n outs = refl
open_end (Process t) n outs = refl

-- so it isn't settled
unsettled_still : (activity : Activity) (outs : List Container) → closed activity.exit outs ≡ false → ended (fate_by activity (Some true) outs) outs ≡ end.Unsettled
unsettled_still activity [] goes = open_end activity.work 1 []
unsettled_still activity (x ∷ xs) goes =
    let last = some_last x xs in
    let fails : holds activity.exit last.0 ≡ false = rw last.1 at goes in
    rw (last.1, fails) (open_end activity.work (length (x ∷ xs) + 1) (x ∷ xs))

-- ---- the scope

among : {X : Type 0} (b : Bool) (xs : List X) (i : ℕ) (x : X) → slice_get (cond b xs []) i ≡ Some x → (b ≡ true) × (slice_get xs i ≡ Some x)
among true xs i x at = (refl, at)
among false xs i x at = absurd (no_more at)
  where
    no_more : None ≡ Some x → ⊥
    no_more h = cc

inner_at : (s : ScopeState) (a : ℕ) (n : NestedState) (j i : ℕ) (inner : ScopeState) → slice_get (out-ScopeState s).states.items a ≡ Some (Nested n) → j ≡ i + 1
    → slice_get (out-NestedState n).scopes.items i ≡ Some inner → inner_of s a j ≡ Some inner
inner_at s a n j i inner at numbered there = let e : j ≡ suc i = omega arith in rw (at, e) there

finished_scopes : (n : NestedState) → (out-NestedState (at_stage stages.Finished n)).scopes.items ≡ (out-NestedState n).scopes.items
finished_scopes n = rw out-roll-NestedState refl

same_ended : (q : Part) (k : Known) (r : Part) → IsSameInside (at r k) (at r (with_end q k))
same_ended q k r = record { most = refl; begun = refl; sent = refl; below = λ p. refl }

module _ (ts : List Template) (depth : ℕ) (k : Known) (g : Graph) (input : Container) (s s' : ScopeState) (path : Path) (clock : ℕ) (tells : Told) (q : Part)
    (well : Well ts depth g) (served : Served ts depth g) (aimed : Aimed ts depth g) (may : MayEnd ts depth k g input q)
    (shows : Shows ts depth k g input s) (shows_then : Shows ts depth (with_end q k) g input s') (receives : Receives ts path clock (Ending q.name q.attempt) nothing tells g s s') where
  abbrev k' : Known
  k' = with_end q k

  abbrev runs : Runs
  runs = output ts depth

  abbrev e : Ends
  e = tree_ends ts depth k g input

  abbrev a : ℕ
  a = may.place

  abbrev activity : Activity
  activity = may.activity

  abbrev base : Container
  base = base_of g activity a input e

  name : activity.name ≡ q.name
  name = ap (λ (r : Part). r.name) may.named

  active : (is_open (fate_given ts k runs g input e a) && is_fed (out-Graph g).lines a e) ≡ true
  active = (among (is_open (fate_given ts k runs g input e a) && is_fed (out-Graph g).lines a e) _ may.number may.start may.started).0

  opened : IsOpened ts k runs g input e a activity
  opened = opened_is ts k runs g input e a activity may.is (and_true (is_open (fate_given ts k runs g input e a)) _ active).0

  fed : is_fed (out-Graph g).lines a e ≡ true
  fed = (and_true (is_open (fate_given ts k runs g input e a)) _ active).1

  abbrev tried : List Container
  tried = tries k.most (gives ts k runs activity.name activity.work) (trial g a activity base) 1 base

  goes : closed activity.exit tried ≡ false
  goes =
      goes_still k.most (gives ts k runs activity.name activity.work) (trial g a activity base) 1 base may.start.attempt may.start.input
      (reached_start (suc k.most) (gives ts k runs activity.name activity.work) (trial g a activity base) 1 base may.number may.start
      (among (is_open (fate_given ts k runs g input e a) && is_fed (out-Graph g).lines a e) _ may.number may.start may.started).1)
      (λ i. gives_scope ts may.graph k runs activity.name activity.work may.start.attempt i may.of ∙ ap (λ r. scope_gives k runs (Some may.graph) r i) may.named ∙ none i)
    where
      none : (i : Container) → scope_gives k runs (Some may.graph) q i ≡ None
      none i = let shut = may.unclosed in rw shut refl

  was : e a ≡ end.Unsettled
  was =
      let outs : attempts ts k runs g input e a ≡ tried = rw (may.is, fed) refl in
      let fate : fate_given ts k runs g input e a ≡ fate_by activity (Some true) tried = rw (opened.begun, may.is) (rw (opened.join, fed) refl) in
      step_is ts depth k g input well a ∙ ap (λ os. ended (fate_given ts k runs g input e a) os) outs ∙ ap (λ f. ended f tried) fate ∙ unsettled_still activity tried goes

  stands : (state : ActivityState) × (slice_get (out-ScopeState s).states.items a ≡ Some state)
  stands =
      let l = shows.stated in
      let i = slice_get_within (out-Graph g).activities a activity may.is in
      present (out-ScopeState s).states.items a (omega (arith, l, i))

  nested_before : (n : NestedState) × (stands.0 ≡ Nested n)
      × ShowsNested (fate_given ts k runs g input e a) (started_in ts depth k g input a activity) (shows_attempt (ShowsWithin ts depth) k activity.name (graph_in ts activity.work)) n
  nested_before =
      nested_state ts may.graph activity.work (fate_given ts k runs g input e a) (attempts ts k runs g input e a) (started_in ts depth k g input a activity)
      (shows_attempt (ShowsWithin ts depth) k activity.name (graph_in ts activity.work)) stands.0 may.of (shows.states a activity stands.0 may.is stands.1)

  abbrev n : NestedState
  n = nested_before.0

  stands_nested : slice_get (out-ScopeState s).states.items a ≡ Some (Nested n)
  stands_nested = stands.1 ∙ ap Some nested_before.1

  scope : (inner : ScopeState) × (slice_get (out-NestedState n).scopes.items may.number ≡ Some inner)
  scope =
      let count : length (out-NestedState n).scopes.items ≡ length (started_in ts depth k g input a activity) = nested_before.2.count in
      let i = slice_get_within (started_in ts depth k g input a activity) may.number may.start may.started in
      present (out-NestedState n).scopes.items may.number (omega (arith, count, i))

  found : inner_of s a q.attempt ≡ Some scope.0
  found =
      inner_at s a n q.attempt may.number scope.0 stands_nested
      (ap (λ (r : Part). r.attempt) (sym may.named) ∙ started_numbered ts k runs g input e a activity may.number may.start may.started) scope.1

  abbrev out : Container
  out = given_by may.graph scope.0

  ends : EndsBy (holds activity.exit out) g may.graph path a activity (Nested n) out (fields s) (fields s') nothing tells
  ends =
      let place : place_of g q.name ≡ Some a = ap (place_of g) (sym name) ∙ place_found g a activity (named_of ts depth g well) may.is in
      let rows : HasRows may.graph = rows_inside ts depth g a activity may.graph served may.is may.of in
      receives a activity (Nested n) may.graph scope.0 place may.is stands_nested may.of rows.sinking found

  itself : IsOf s (fields s)
  itself = record { begun = refl; ends = refl; states = refl; unsettled = refl }

  ends_given : (b : Bool) → EndsBy b g may.graph path a activity (Nested n) out (fields s) (fields s') nothing tells → IsGivenAt ts depth k k' g input path tells
  ends_given true is =
      settled_given ts depth k k' g input s s' path tells well served aimed shows shows_then (same_ended q k) a activity may.is (fields s) itself (Nested n) stands_nested
      (end.Finished out) (finished_state (Nested n)) (finished_scopes n) was (shows.begun ∙ may.begun)
      (is.0 ∙ ap (λ o. settled a (end.Finished out) (changed_at finished_state a o (fields s))) stands_nested) is.1
  ends_given false is =
      next_given ts depth k k' g input s s' path tells well served aimed shows shows_then (same_ended q k) a activity may.is (fields s) itself n stands_nested may.graph _ may.of is

  -- what the END of an attempt gives
  pub end_given : IsGivenAt ts depth k k' g input path tells
  end_given = ends_given (holds activity.exit out) ends
