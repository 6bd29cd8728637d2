-- What an event gives that a scope further in receives.
use Rattle.std.proofs.Common.{◌≡◌, ℕ, zero, suc, ◌<◌, Bool, if◌then◌else◌, List, [], ◌∷◌, ◌++◌, map, length, Some, refl, ap, sym, ◌∙◌, subst, arith, inl}
use Rattle.std.specs.Prelude.{slice_set, slice_get}
use Rattle.std.proofs.lemmas.Option.{slice_get_within}
use Rattle.fate_laws.specs.StartedScopes.{ScopeFact}
use Rattle.fate_laws.specs.WellFormed.{Well}
use Rattle.flow_model.specs.Fates.{Ends}
use Rattle.flow_model.specs.ScopeContainers.{graph_in}
use Rattle.flow_model.specs.Scopes.{Known, at, Runs, Start, fate_given, attempts, started_at, output, tree_ends}
use Rattle.flow_model.specs.declared.graphs.Activity.{Activity}
use Rattle.flow_model.specs.declared.graphs.Container.{Container}
use Rattle.flow_model.specs.declared.graphs.Graph.{Graph, out-Graph}
use Rattle.flow_model.specs.declared.graphs.Template.{Template}
use Rattle.flow_model.specs.declared.instances.Part.{Part}
use Rattle.flow_model.specs.declared.instances.Path.{Path}
use Rattle.navigator.proofs.DueParts.{scopes_in, end_note, is_over, all_notes}
use Rattle.navigator.proofs.FreshHere.{IsGivenAt}
use Rattle.navigator.proofs.Leading.{at_here, same_on_the_way, HasScopes, has_scopes, started_place}
use Rattle.navigator.proofs.Merges.{Merges, merges_same, merges_append}
use Rattle.navigator.proofs.Places.{present, set_read}
use Rattle.navigator.proofs.SameActivities.{Named, place_found}
use Rattle.navigator.proofs.ShownAgain.{IsSameScope, ends_as_before, starts_as_before}
use Rattle.navigator.proofs.Stepping.{counted_at, IsLocal}
use Rattle.navigator.proofs.ToldNotes.{AreTold, push_all, kind_only}
use Rattle.navigator.specs.Events.{ScopeChange, ChangesState, ChangesInside, ChangesAt}
use Rattle.view_laws.specs.NextEvents.{Aimed}
use Rattle.navigator.specs.Reading.{place_of, attempt_place}
use Rattle.navigator.specs.Serving.{Served}
use Rattle.navigator.specs.Showing.{IsCounted, graph_under, graph_along}
use Rattle.navigator.specs.Steps.{Told, Fields, fields, is_root}
use Rattle.navigator.specs.Views.{ShowsWithin, shows_attempt, ShowsActivity, Shows}
use Rattle.navigator.specs.declared.scopes.ActivityState.{ActivityState, Program, Nested}
use Rattle.navigator.specs.declared.scopes.NestedState.{NestedState, out-NestedState}
use Rattle.navigator.specs.declared.scopes.ScopeState.{ScopeState, out-ScopeState}
use Rattle.view_laws.specs.Coming.{IsOpenAttempt, Leads}
use Rattle.view_laws.specs.Learning.{with_below, learnt}
use Rattle.view_laws.specs.Messages.{Note, push, due_in}
use Rattle.navigator.proofs.FreshBelow.{below_merges, over_as_before}

-- ---- the scope of the attempt, before and after

pub record IsInside (ts : List Template) (depth : ℕ) (k j : Known) (q : Part) (qs : List Part) (change : ScopeChange) (h : Graph) (i : Container) : Type 0 where
  pub before : ScopeState
  pub after : ScopeState
  pub shows : Shows ts depth (at q k) h i before
  pub shows_then : Shows ts depth j h i after
  pub changes : ChangesAt ts change qs h before after

module _ (ts : List Template) (depth : ℕ) (k j : Known) (g : Graph) (input : Container) (q : Part) (qs : List Part) (s s' : ScopeState) (change : ScopeChange) (named : Named g)
    (within : Graph → Container → Type 0) (most : j.most ≡ k.most) (given : j.given [] ≡ k.given (q ∷ [])) (closed : j.closed [] ≡ k.closed (q ∷ []))
    (attempt : IsOpenAttempt ts (suc depth) k g input q within) (shows : Shows ts (suc depth) k g input s)
    (shows' : Shows ts (suc depth) (with_below q j k) g input s') (changes : ChangesAt ts change (q ∷ qs) g s s') where
  abbrev K : Known
  K = with_below q j k

  abbrev runs : Runs
  runs = output ts (suc depth)

  abbrev e : Ends
  e = tree_ends ts (suc depth) k g input

  abbrev E : Ends
  E = tree_ends ts (suc depth) K g input

  abbrev a : ℕ
  a = attempt.place

  abbrev activity : Activity
  activity = attempt.activity

  abbrev h : Graph
  h = attempt.graph

  at_q : q.name ≡ activity.name
  at_q = ap (λ (p : Part). p.name) (sym attempt.named)

  place : place_of g q.name ≡ Some a
  place = ap (place_of g) at_q ∙ place_found g a activity named attempt.is

  state_at : (x : ActivityState) × (slice_get (out-ScopeState s).states.items a ≡ Some x)
  state_at =
      let within : a < length (out-Graph g).activities = slice_get_within (out-Graph g).activities a activity attempt.is in
      let long = shows.stated in
      present (out-ScopeState s).states.items a (omega arith)

  scopes_at : HasScopes (fate_given ts k runs g input e a) (started_at ts k runs g input e a activity) (shows_attempt (ShowsWithin ts (suc depth)) k activity.name (graph_in ts activity.work)) state_at.0
  scopes_at =
      has_scopes ts activity.work h _ (attempts ts k runs g input e a) _ (shows_attempt (ShowsWithin ts (suc depth)) k activity.name (graph_in ts activity.work)) state_at.0 attempt.of
      (shows.states a activity state_at.0 attempt.is state_at.1)

  abbrev old_scopes : List ScopeState
  old_scopes = (out-NestedState scopes_at.nested).scopes.items

  inner_at : (t : ScopeState) × (slice_get old_scopes attempt.number ≡ Some t)
  inner_at =
      let within : attempt.number < length (started_at ts k runs g input e a activity) = slice_get_within (started_at ts k runs g input e a activity) attempt.number attempt.start attempt.started in
      let long = scopes_at.shown.count in
      present old_scopes attempt.number (omega arith)

  changed : ChangesInside (ChangesAt ts change qs h) a attempt.number inner_at.0 scopes_at.nested s s'
  changed =
      let number : attempt.start.attempt ≡ q.attempt = ap (λ (p : Part). p.attempt) attempt.named in
      let numbered : attempt_place q.attempt ≡ Some attempt.number = ap attempt_place (sym number) ∙ started_place ts k runs g input e a activity attempt.number attempt.start attempt.started in
      let state : slice_get (fields s).states a ≡ Some (Nested scopes_at.nested) = state_at.1 ∙ ap Some scopes_at.is in
      changes a attempt.number activity h scopes_at.nested inner_at.0 place attempt.is attempt.of numbered state inner_at.1

  shown : Shows ts depth (at q k) h attempt.start.input inner_at.0
  shown =
      subst (λ r. ShowsWithin ts (suc depth) (at r k) h attempt.start.input inner_at.0) attempt.named
      (subst (λ o. shows_attempt (ShowsWithin ts (suc depth)) k activity.name o attempt.start inner_at.0) attempt.of
      (scopes_at.shown.scopes attempt.number attempt.start inner_at.0 attempt.started inner_at.1))

  started_then : slice_get (started_at ts K runs g input E a activity) attempt.number ≡ Some attempt.start
  started_then =
      let same : IsSameScope ts runs k K = same_on_the_way ts runs k j q given (closed ∙ attempt.unclosed) attempt.unclosed in
      ap (λ (f : Ends). slice_get (started_at ts K runs g input f a activity) attempt.number) (ends_as_before ts runs k K g input same)
      ∙ ap (λ (ss : List Start). slice_get ss attempt.number) (starts_as_before ts runs k K g input same e a activity) ∙ attempt.started

  -- the scope of the attempt after it
  shown_then : (n' : NestedState) (next : ScopeState) → ShowsActivity ts K runs (ShowsWithin ts (suc depth)) g input E a activity (Nested n')
      → (out-NestedState n').scopes.items ≡ slice_set old_scopes attempt.number next → Shows ts depth j h attempt.start.input next
  shown_then n' next shows_it scopes =
      let has = has_scopes ts activity.work h _ (attempts ts K runs g input E a) _ (shows_attempt (ShowsWithin ts (suc depth)) K activity.name (graph_in ts activity.work)) (Nested n') attempt.of shows_it in
      let there : slice_get (out-NestedState has.nested).scopes.items attempt.number ≡ Some next
      = ap (λ st. slice_get (scopes_in st) attempt.number) (sym has.is) ∙ ap (λ l. slice_get l attempt.number) scopes ∙ set_read old_scopes attempt.number inner_at.0 next inner_at.1 in
      subst (λ u. ShowsWithin ts (suc depth) u h attempt.start.input next) (at_here q j k most)
      (subst (λ r. ShowsWithin ts (suc depth) (at r K) h attempt.start.input next) attempt.named
      (subst (λ o. shows_attempt (ShowsWithin ts (suc depth)) K activity.name o attempt.start next) attempt.of
      (has.shown.scopes attempt.number attempt.start next started_then there)))

  -- where the scope around shows what is known before and after, so does the scope of the attempt
  pub inside_of : IsInside ts depth k j q qs change h attempt.start.input
  inside_of = go changed.state changed.inside (shows'.states a activity changed.state attempt.is stands_then)
    where
      stands_then : slice_get (out-ScopeState s').states.items a ≡ Some changed.state
      stands_then = ap (λ (f : Fields). slice_get f.states a) changed.around ∙ set_read (out-ScopeState s).states.items a state_at.0 changed.state state_at.1

      go : (state : ActivityState) → ChangesState (ChangesAt ts change qs h) attempt.number inner_at.0 scopes_at.nested state
          → ShowsActivity ts K runs (ShowsWithin ts (suc depth)) g input E a activity state → IsInside ts depth k j q qs change h attempt.start.input
      go (Program p) c is = absurd c
      go (Nested n') c is = record {
        before = inner_at.0;
        after = c.next;
        shows = shown;
        shows_then = shown_then n' c.next is c.scopes;
        changes = c.changes;
      }

  -- the graph of the attempt
  pub under_is : graph_under ts g (place_of g q.name) ≡ Some attempt.graph
  under_is = rw place (rw attempt.is attempt.of)

-- ---- along a path

-- what an event gives that a scope further in receives
pub record IsGivenAlong (ts : List Template) (depth : ℕ) (k k' : Known) (g : Graph) (input : Container) (p : List Part) (path : Path) (tells : Told) : Type 0 where
  pub graph : Graph
  pub along : graph_along ts p g ≡ Some graph
  pub added : List Note
  pub over : Bool
  pub due : Merges (due_in ts depth k g input) (map (push_all p) ((if is_root p then [] else end_note over) ++ added)) (due_in ts depth k' g input)
  pub own : Merges (end_note (is_over ts depth k g input)) (if is_root p then end_note over else []) (end_note (is_over ts depth k' g input))
  pub signals : AreTold graph path tells.signals (kind_only 0 added)
  pub begins : AreTold graph path tells.begins (kind_only 1 added)
  pub none : kind_only 2 added ≡ []
  pub ends : AreTold graph path tells.ends (if is_root path.parts then [] else end_note over)

map_nowhere : (ns : List Note) → map (push_all []) ns ≡ ns
map_nowhere [] = refl
map_nowhere (n ∷ ns) = ap (λ l. n ∷ l) (map_nowhere ns)

map_further : (q : Part) (p : List Part) (ns : List Note) → map (push q) (map (push_all p) ns) ≡ map (push_all (q ∷ p)) ns
map_further q p [] = refl
map_further q p (n ∷ ns) = ap (λ l. push q (push_all p n) ∷ l) (map_further q p ns)

both_added : (p : List Part) (last added : List Note)
    → (if is_root p then last else []) ++ map (push_all p) ((if is_root p then [] else last) ++ added) ≡ map (push_all p) (last ++ added)
both_added [] last added = ap (λ l. last ++ l) (map_nowhere added) ∙ sym (map_nowhere (last ++ added))
both_added (q ∷ p) last added = refl

-- one step up
along_more : (ts : List Template) (depth : ℕ) (k j : Known) (g : Graph) (input : Container) (q : Part) (p : List Part) (path : Path) (tells : Told) → Named g → (within : Graph → Container → Type 0)
    → j.most ≡ k.most → j.given [] ≡ k.given (q ∷ []) → j.closed [] ≡ k.closed (q ∷ []) → (attempt : IsOpenAttempt ts (suc depth) k g input q within)
    → graph_under ts g (place_of g q.name) ≡ Some attempt.graph → IsGivenAlong ts depth (at q k) j attempt.graph attempt.start.input p path tells
    → IsGivenAlong ts (suc depth) k (with_below q j k) g input (q ∷ p) path tells
along_more ts depth k j g input q p path tells named within most given closed attempt under inner = record {
  graph = inner.graph;
  along = rw under inner.along;
  added = inner.added;
  over = inner.over;
  due = subst (λ l. Merges (due_in ts (suc depth) k g input) l (due_in ts (suc depth) (with_below q j k) g input)) (map_further q p (end_note inner.over ++ inner.added))
      (below_merges ts depth k j g input q named within most given closed attempt adds all);
  own = subst (λ b. Merges (end_note (is_over ts (suc depth) k g input)) [] (end_note b)) (sym (over_as_before ts depth k j g input q named within most given closed attempt adds all))
      (merges_same (end_note (is_over ts (suc depth) k g input)));
  signals = inner.signals;
  begins = inner.begins;
  none = inner.none;
  ends = inner.ends;
}
  where
    adds : List Note
    adds = map (push_all p) (end_note inner.over ++ inner.added)

    both : Merges (end_note (is_over ts depth (at q k) attempt.graph attempt.start.input) ++ due_in ts depth (at q k) attempt.graph attempt.start.input)
        ((if is_root p then end_note inner.over else []) ++ map (push_all p) ((if is_root p then [] else end_note inner.over) ++ inner.added))
        (end_note (is_over ts depth j attempt.graph attempt.start.input) ++ due_in ts depth j attempt.graph attempt.start.input)
    both =
        merges_append (end_note (is_over ts depth (at q k) attempt.graph attempt.start.input)) (if is_root p then end_note inner.over else []) (end_note (is_over ts depth j attempt.graph attempt.start.input))
        (due_in ts depth (at q k) attempt.graph attempt.start.input) (map (push_all p) ((if is_root p then [] else end_note inner.over) ++ inner.added))
        (due_in ts depth j attempt.graph attempt.start.input) inner.own inner.due

    all : Merges (all_notes ts depth (at q k) attempt.graph attempt.start.input) (map (push_all p) (end_note inner.over ++ inner.added)) (all_notes ts depth j attempt.graph attempt.start.input)
    all = inl (
      end_note (is_over ts depth (at q k) attempt.graph attempt.start.input) ++ due_in ts depth (at q k) attempt.graph attempt.start.input,
      refl,
      subst (λ l. Merges (end_note (is_over ts depth (at q k) attempt.graph attempt.start.input) ++ due_in ts depth (at q k) attempt.graph attempt.start.input) l
          (end_note (is_over ts depth j attempt.graph attempt.start.input) ++ due_in ts depth j attempt.graph attempt.start.input)) (both_added p (end_note inner.over) inner.added) both,
    )

learnt_most : (f : Known → Known) → IsLocal f → (p : List Part) (k : Known) → (learnt f p k).most ≡ k.most
learnt_most f local [] k = local.most k
learnt_most f local (q ∷ p) k = refl

learnt_given : (f : Known → Known) → IsLocal f → (p : List Part) (k : Known) → (learnt f p k).given [] ≡ k.given []
learnt_given f local [] k = local.given k
learnt_given f local (q ∷ p) k = refl

learnt_closed : (f : Known → Known) → IsLocal f → (p : List Part) (k : Known) → (learnt f p k).closed [] ≡ k.closed []
learnt_closed f local [] k = local.closed k
learnt_closed f local (q ∷ p) k = refl

-- where each event of a scope gives what became due there, so does one of a scope further in
pub path_given : (ts : List Template) (change : ScopeChange) (fact : ScopeFact) (f : Known → Known) (path : Path) (tells : Told) → IsLocal f
    → ((depth : ℕ) (k : Known) (g : Graph) (input : Container) (s s' : ScopeState) → Well ts depth g → Served ts depth g → Aimed ts depth g → IsCounted k → fact depth k g input
    → Shows ts depth k g input s → Shows ts depth (f k) g input s' → change g s s' → IsGivenAt ts depth k (f k) g input path tells)
    → (p : List Part) (depth : ℕ) (k : Known) (g : Graph) (input : Container) (s s' : ScopeState) → Well ts depth g → Served ts depth g → Aimed ts depth g → IsCounted k
    → Leads fact ts depth k g input p → Shows ts depth k g input s → Shows ts depth (learnt f p k) g input s' → ChangesAt ts change p g s s' → IsGivenAlong ts depth k (learnt f p k) g input p path tells
path_given ts change fact f path tells local here [] depth k g input s s' well served aimed counted leads shows shows' changes =
    let is = here depth k g input s s' well served aimed counted leads shows shows' changes in
    record {
      graph = g;
      along = refl;
      added = is.added;
      over = is.over;
      due = subst (λ l. Merges (due_in ts depth k g input) l (due_in ts depth (f k) g input)) (sym (map_nowhere is.added)) is.due;
      own = is.own;
      signals = is.signals;
      begins = is.begins;
      none = is.none;
      ends = is.ends;
    }
path_given ts change fact f path tells local here (q ∷ p) zero k g input s s' well served aimed counted leads shows shows' changes = absurd leads
path_given ts change fact f path tells local here (q ∷ p) (suc depth) k g input s s' well served aimed counted leads shows shows' changes =
    let j : Known = learnt f p (at q k) in
    let h : Graph = leads.graph in
    let i : Container = leads.start.input in
    let scope = inside_of ts depth k j g input q p s s' change well.named (λ h i. Leads fact ts depth (at q k) h i p) (learnt_most f local p (at q k)) (learnt_given f local p (at q k)) (learnt_closed f local p (at q k))
    leads shows shows' changes in
    let inner = path_given ts change fact f path tells local here p depth (at q k) h i scope.before scope.after
    (well.inside leads.place leads.activity leads.is h leads.of) (served.inside leads.place leads.activity h leads.is leads.of) (aimed.inside leads.place leads.activity leads.is h leads.of)
    (counted_at q k counted) leads.within scope.shows scope.shows_then scope.changes in
    let under = under_is ts depth k j g input q p s s' change well.named (λ h i. Leads fact ts depth (at q k) h i p) (learnt_most f local p (at q k)) (learnt_given f local p (at q k)) (learnt_closed f local p (at q k))
    leads shows shows' changes in
    along_more ts depth k j g input q p path tells well.named (λ h i. Leads fact ts depth (at q k) h i p) (learnt_most f local p (at q k)) (learnt_given f local p (at q k)) (learnt_closed f local p (at q k))
    leads under inner
