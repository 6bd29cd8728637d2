-- The END of an attempt keeps what a scope shows.
use Rattle.std.proofs.Common.{◌≡◌, ℕ, zero, suc, ◌+◌, ◌≤◌, Bool, true, false, ◌&&◌, List, [], ◌∷◌, ◌++◌, length, Option, Some, None, cond, refl, ap, sym, ◌∙◌, subst, arith}
use Rattle.std.specs.Prelude.{◌≢◌, slice_get}
use Rattle.std.proofs.Math.Path.{fun_ext}
use Rattle.std.proofs.lemmas.Option.{slice_get_within}
use Rattle.blocks_subprocs.specs.Ends.{ends_of}
use Rattle.fate_laws.proofs.Extends.{and_true}
use Rattle.fate_laws.proofs.Items.{part_itself}
use Rattle.fate_laws.specs.StartedScopes.{Reaches}
use Rattle.fate_laws.specs.WellFormed.{Well}
use Rattle.flow_model.specs.Conditions.{holds}
use Rattle.flow_model.specs.Containers.{with_return_code}
use Rattle.flow_model.specs.Fates.{Ends, is_open}
use Rattle.flow_model.specs.ScopeContainers.{base_of, graph_in, looped}
use Rattle.flow_model.specs.Scopes.{Known, at, part, Runs, Start, scope_gives, gives, is_fed, trial, attempts, fate_given, started_at, output, tree_ends}
use Rattle.flow_model.specs.declared.graphs.Activity.{Activity}
use Rattle.flow_model.specs.declared.graphs.Container.{Container}
use Rattle.flow_model.specs.declared.graphs.Graph.{Graph, out-Graph}
use Rattle.flow_model.specs.declared.graphs.Template.{Template}
use Rattle.flow_model.specs.declared.instances.Part.{Part}
use Rattle.flow_model.specs.declared.instances.Path.{Path}
use Rattle.flow_model.specs.declared.instances.SourceEnd.{SourceEnd}
use Rattle.flow_model.specs.declared.instances.SourceEnd.TheVariants as end
use Rattle.flow_model.specs.declared.names.Name.{Name}
use Rattle.navigator.proofs.Completing.{parts_apart}
use Rattle.navigator.proofs.EndedScopes.{nested_state, nested_work, gives_scope, NestedAfter, nested_after, EndsOne, ends_one, HasRows, rows_inside, next_shows, given_is, output_inside}
use Rattle.navigator.proofs.MoreAttempts.{GivesMore, reached_start}
use Rattle.navigator.proofs.NextAttempt.{fate_then, end_then, IsNextAttempt, IsOpened, opened_is, open_before, next_attempt}
use Rattle.navigator.proofs.OneActivity.{ends_with, IsNear, gives_apart, values_near, extends_now, one_changes}
use Rattle.navigator.proofs.Places.{present}
use Rattle.navigator.proofs.RowLists.{started_numbered}
use Rattle.navigator.proofs.SameActivities.{step_is, named_of, place_found}
use Rattle.navigator.proofs.ShownAgain.{IsSameInside, shows_inside}
use Rattle.navigator.specs.Events.{Receives, Ends as Ending}
use Rattle.navigator.specs.Fresh.{IsFresh}
use Rattle.navigator.specs.Reading.{place_of, inner_of}
use Rattle.navigator.specs.Serving.{Served}
use Rattle.navigator.specs.Steps.{Told, Fields, fields, EndsBy, given_by}
use Rattle.navigator.specs.Views.{ShowsNested, ShowsWithin, shows_attempt, Shows}
use Rattle.navigator.specs.declared.scopes.ActivityState.{ActivityState, Nested}
use Rattle.navigator.specs.declared.scopes.NestedState.{NestedState, out-NestedState}
use Rattle.navigator.specs.declared.scopes.ScopeState.{ScopeState, out-ScopeState}
use Rattle.view_laws.specs.Coming.{IsByMessages, IsUntouched, started_in, MayEnd}
use Rattle.view_laws.specs.Learning.{closed_here, with_end}

-- ---- what is known

near_end : (q : Part) (k : Known) → IsNear k (with_end q k) q
near_end q k = record {
  most = refl;
  begun = refl;
  sent = refl;
  others = λ r apart.
      ap (λ (f : List Part → Bool). record { most = k.most; begun = λ p. k.begun (r ∷ p); closed = f; sent = λ p. k.sent (r ∷ p); given = λ p. k.given (r ∷ p) })
      (fun_ext (each r apart));
}
  where
    each : (r : Part) → r ≢ q → (p : List Part) → closed_here q k.closed (r ∷ p) ≡ k.closed (r ∷ p)
    each r apart [] = rw (parts_apart q r apart) refl
    each r apart (s ∷ p) = refl

-- inside each attempt the same is known
same_in : (q r : Part) (k : Known) → IsSameInside (at r k) (at r (with_end q k))
same_in q r k = record { most = refl; begun = refl; sent = refl; below = λ p. refl }

older_shows : (ts : List Template) (depth : ℕ) (q : Part) (k : Known) (name : Name) (o : Option Graph) (start : Start) (s : ScopeState)
    → shows_attempt (ShowsWithin ts depth) k name o start s → shows_attempt (ShowsWithin ts depth) (with_end q k) name o start s
older_shows ts depth q k name None start s is = is
older_shows ts zero q k name (Some h) start s is = is
older_shows ts (suc depth) q k name (Some h) start s is =
    shows_inside ts depth (at (part name start.attempt) k) (at (part name start.attempt) (with_end q k)) h start.input s (same_in q (part name start.attempt) k) is

-- ---- the scope

among : {X : Type 0} (b : Bool) (xs : List X) (i : ℕ) (x : X) → slice_get (cond b xs []) i ≡ Some x → (b ≡ true) × (slice_get xs i ≡ Some x)
among true xs i x at = (refl, at)
among false xs i x at = absurd (no_more at)
  where
    no_more : None ≡ Some x → ⊥
    no_more h = cc

inner_at : (s : ScopeState) (a : ℕ) (n : NestedState) (j i : ℕ) (inner : ScopeState) → slice_get (out-ScopeState s).states.items a ≡ Some (Nested n) → j ≡ i + 1
    → slice_get (out-NestedState n).scopes.items i ≡ Some inner → inner_of s a j ≡ Some inner
inner_at s a n j i inner at numbered there = let e : j ≡ suc i = omega arith in rw (at, e) there

module _ (ts : List Template) (depth : ℕ) (k : Known) (g : Graph) (input : Container) (s s' : ScopeState) (path : Path) (clock : ℕ) (before after : Told) (q : Part)
    (well : Well ts depth g) (served : Served ts depth g) (messages : IsByMessages k) (may : MayEnd ts depth k g input q) (within : may.start.attempt ≤ k.most)
    (shows : Shows ts depth k g input s) where
  abbrev k' : Known
  k' = with_end q k

  abbrev runs : Runs
  runs = output ts depth

  abbrev e : Ends
  e = tree_ends ts depth k g input

  abbrev a : ℕ
  a = may.place

  abbrev activity : Activity
  activity = may.activity

  abbrev h : Graph
  h = may.graph

  abbrev c : ℕ
  c = may.start.attempt

  abbrev x : Container
  x = may.start.input

  abbrev out : Container
  out = with_return_code may.out

  abbrev now : SourceEnd
  now = end_then activity out

  abbrev base : Container
  base = base_of g activity a input e

  near : IsNear k k' q
  near = near_end q k

  name : activity.name ≡ q.name
  name = ap (λ (r : Part). r.name) may.named

  active : (is_open (fate_given ts k runs g input e a) && is_fed (out-Graph g).lines a e) ≡ true
  active = (among (is_open (fate_given ts k runs g input e a) && is_fed (out-Graph g).lines a e) _ may.number may.start may.started).0

  opened : IsOpened ts k runs g input e a activity
  opened = opened_is ts k runs g input e a activity may.is (and_true (is_open (fate_given ts k runs g input e a)) _ active).0

  fed : is_fed (out-Graph g).lines a e ≡ true
  fed = (and_true (is_open (fate_given ts k runs g input e a)) _ active).1

  reach : Reaches (suc k.most) (gives ts k runs activity.name activity.work) (trial g a activity base) 1 base c x
  reach =
      reached_start (suc k.most) (gives ts k runs activity.name activity.work) (trial g a activity base) 1 base may.number may.start
      (among (is_open (fate_given ts k runs g input e a) && is_fed (out-Graph g).lines a e) _ may.number may.start may.started).1

  gave : scope_gives k' runs (Some h) q x ≡ Some out
  gave =
      let closed : k'.closed (q ∷ []) ≡ true = rw (part_itself q) refl in
      let same : runs (at q k') h x ≡ Some may.out = output_inside ts depth (at q k) (at q k') h x (same_in q q k) ∙ may.complete in
      rw (closed, same) refl

  more : GivesMore (gives ts k runs activity.name activity.work) (gives ts k' runs activity.name activity.work) c x out
  more = record {
    others = λ j i apart. gives_apart ts k k' runs q near activity.name activity.work j i (λ same. apart (ap (λ (r : Part). r.attempt) (same ∙ sym may.named)));
    before = λ i. gives_scope ts h k runs activity.name activity.work c i may.of ∙ ap (λ r. scope_gives k runs (Some h) r i) may.named ∙ closed_gives k q i may.unclosed;
    now = gives_scope ts h k' runs activity.name activity.work c x may.of ∙ ap (λ r. scope_gives k' runs (Some h) r x) may.named ∙ gave;
    next = λ i.
        gives_scope ts h k' runs activity.name activity.work (c + 1) i may.of
        ∙ closed_gives k' (part activity.name (c + 1)) i (ap (λ (j : Known). j.closed []) (near.others (part activity.name (c + 1)) later) ∙ may.unstarted.unclosed);
  }
    where
      closed_gives : (known : Known) (r : Part) (i : Container) → known.closed (r ∷ []) ≡ false → scope_gives known runs (Some h) r i ≡ None
      closed_gives known r i unclosed = rw unclosed refl

      later : part activity.name (c + 1) ≢ q
      later same = let e : c + 1 ≡ c = ap (λ (r : Part). r.attempt) (same ∙ sym may.named) in omega arith

  was : e a ≡ end.Unsettled
  was = step_is ts depth k g input well a ∙ open_before ts k k' runs g input e a activity c x out may.is refl refl opened fed within more reach

  abbrev E : Ends
  E = ends_with a now e

  next : IsNextAttempt ts k k' runs g input e E a activity c out
  next =
      next_attempt ts k k' runs g input e a activity c x out may.is refl refl opened fed within more reach E
      (extends_now ts depth k k' g input q well near messages may.fed a activity may.is name was now)
      (values_near k k' q near messages (out-Graph g).controls e E a)

  rows : HasRows h
  rows = rows_inside ts depth g a activity h served may.is may.of

  -- the next scope, where there is one, shows the view before anything counts of it
  first : (i : Container) (s : ScopeState) → IsFresh h i s → shows_attempt (ShowsWithin ts depth) k' activity.name (graph_in ts activity.work) (record { attempt = c + 1; input = i }) s
  first i s fresh =
      let new = may.unstarted.untouched in
      let untouched : IsUntouched (at (part activity.name (c + 1)) k') = record { unbegun = new.unbegun; unsent = new.unsent } in
      subst (λ o. shows_attempt (ShowsWithin ts depth) k' activity.name o (record { attempt = c + 1; input = i }) s) (sym may.of)
      (next_shows ts depth (at (part activity.name (c + 1)) k') (at q k) h i x may.out s may.complete fresh untouched rows)

  shown : (n : NestedState) → ShowsNested (fate_given ts k runs g input e a) (started_in ts depth k g input a activity) (shows_attempt (ShowsWithin ts depth) k activity.name (graph_in ts activity.work)) n
      → (i : Container) → i ≡ looped (out-Graph g).loops a out base → (n' : NestedState) → NestedAfter (holds activity.exit out) h i n n'
      → ShowsNested (fate_given ts k' runs g input E a) (started_at ts k' runs g input E a activity) (shows_attempt (ShowsWithin ts depth) k' activity.name (graph_in ts activity.work)) n'
  shown n is i input_is n' comes =
      let start' = λ (b : Container). record { attempt = c + 1; input = b } ∷ [] in
      subst (λ f. ShowsNested f (started_at ts k' runs g input E a activity) (shows_attempt (ShowsWithin ts depth) k' activity.name (graph_in ts activity.work)) n') (sym next.fate_next)
      (subst (λ ss. ShowsNested (fate_then activity c out) ss (shows_attempt (ShowsWithin ts depth) k' activity.name (graph_in ts activity.work)) n')
      (ap (λ b. started_at ts k runs g input e a activity ++ cond (holds activity.exit out) [] (start' b)) input_is ∙ sym next.starts)
      (nested_after (holds activity.exit out) ts h activity.work c i _ (started_at ts k runs g input e a activity) _
      (shows_attempt (ShowsWithin ts depth) k' activity.name (graph_in ts activity.work)) n n' may.of next.started
      (λ start t. older_shows ts depth q k activity.name (graph_in ts activity.work) start t) (first i) is comes))

  -- the state of the activity before
  stands : (state : ActivityState) × (slice_get (out-ScopeState s).states.items a ≡ Some state)
  stands =
      let l = shows.stated in
      let i = slice_get_within (out-Graph g).activities a activity may.is in
      present (out-ScopeState s).states.items a (omega (arith, l, i))

  nested_before : (n : NestedState) × (stands.0 ≡ Nested n)
      × ShowsNested (fate_given ts k runs g input e a) (started_in ts depth k g input a activity) (shows_attempt (ShowsWithin ts depth) k activity.name (graph_in ts activity.work)) n
  nested_before =
      nested_state ts h activity.work (fate_given ts k runs g input e a) (attempts ts k runs g input e a) (started_in ts depth k g input a activity)
      (shows_attempt (ShowsWithin ts depth) k activity.name (graph_in ts activity.work)) stands.0 may.of (shows.states a activity stands.0 may.is stands.1)

  abbrev n : NestedState
  n = nested_before.0

  stands_nested : slice_get (out-ScopeState s).states.items a ≡ Some (Nested n)
  stands_nested = stands.1 ∙ ap Some nested_before.1

  -- the scope that has ended
  scope : (inner : ScopeState) × (slice_get (out-NestedState n).scopes.items may.number ≡ Some inner)
  scope =
      let count : length (out-NestedState n).scopes.items ≡ length (started_in ts depth k g input a activity) = nested_before.2.count in
      let i = slice_get_within (started_in ts depth k g input a activity) may.number may.start may.started in
      present (out-NestedState n).scopes.items may.number (omega (arith, count, i))

  gave_out : given_by h scope.0 ≡ out
  gave_out =
      given_is ts depth (at q k) h x may.out scope.0 may.complete
      (subst (λ r. ShowsWithin ts depth (at r k) h x scope.0) may.named
      (subst (λ o. shows_attempt (ShowsWithin ts depth) k activity.name o may.start scope.0) may.of (nested_before.2.scopes may.number may.start scope.0 may.started scope.1)))

  found : inner_of s a q.attempt ≡ Some scope.0
  found =
      inner_at s a n q.attempt may.number scope.0 stands_nested
      (ap (λ (r : Part). r.attempt) (sym may.named) ∙ started_numbered ts k runs g input e a activity may.number may.start may.started) scope.1

  abbrev looped_by : Fields → Container
  looped_by f = looped (out-Graph g).loops a out (base_of g activity a f.input (ends_of f.ends))

  looped_is : looped_by (fields s) ≡ looped (out-Graph g).loops a out base
  looped_is =
      ap (λ i. looped (out-Graph g).loops a out (base_of g activity a i (ends_of (out-ScopeState s).ends.items))) shows.reads
      ∙ ap (λ f. looped (out-Graph g).loops a out (base_of g activity a input f)) (fun_ext shows.ends)

  keeps : EndsOne (holds activity.exit out) h (looped_by (fields s)) a n out (fields s) (fields s') → Shows ts depth k' g input s'
  keeps one =
      one_changes ts depth k k' g input q well near messages may.fed a activity may.is name was now next.end_next s s' (Nested one.nested) one.changes shows
      (nested_work ts h activity.work (fate_given ts k' runs g input E a) (attempts ts k' runs g input E a) (started_at ts k' runs g input E a activity)
      (shows_attempt (ShowsWithin ts depth) k' activity.name (graph_in ts activity.work)) one.nested may.of
      (shown n nested_before.2 (looped_by (fields s)) looped_is one.nested one.comes))

  end_keeps : Receives ts path clock (Ending q.name q.attempt) before after g s s' → Shows ts depth k' g input s'
  end_keeps receives =
      let place : place_of g q.name ≡ Some a = ap (place_of g) (sym name) ∙ place_found g a activity (named_of ts depth g well) may.is in
      let received = receives a activity (Nested n) h scope.0 place may.is stands_nested may.of rows.sinking found in
      keeps (ends_one (holds activity.exit out) g h path a activity n out (fields s) (fields s') before after (shows.ends a ∙ was) stands_nested
      (subst (λ (o : Container). EndsBy (holds activity.exit o) g h path a activity (Nested n) o (fields s) (fields s') before after) gave_out received))

-- where a state shows what is known, and an attempt ends that is complete, the state after it shows what is known then
pub end_shows : (ts : List Template) (depth : ℕ) (k : Known) (g : Graph) (input : Container) (s s' : ScopeState) (path : Path) (clock : ℕ) (before after : Told) (q : Part)
    → Well ts depth g → Served ts depth g → IsByMessages k → (may : MayEnd ts depth k g input q) → may.start.attempt ≤ k.most → Shows ts depth k g input s
    → Receives ts path clock (Ending q.name q.attempt) before after g s s' → Shows ts depth (with_end q k) g input s'
end_shows ts depth k g input s s' path clock before after q well served messages may within shows receives =
    end_keeps ts depth k g input s s' path clock before after q well served messages may within shows receives
