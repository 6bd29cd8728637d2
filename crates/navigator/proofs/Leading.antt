-- Where one scope inside changes, the scopes on the way go on showing the view.
use Rattle.std.proofs.Common.{◌≡◌, ℕ, zero, suc, ◌+◌, ◌<◌, Bool, true, false, List, [], ◌∷◌, length, Option, Some, None, refl, ap, sym, ◌∙◌, subst, arith, inl, inr}
use Rattle.std.specs.Prelude.{not, slice_get, slice_set, count_by}
use Rattle.std.proofs.Math.ListN.{length-set}
use Rattle.std.proofs.Math.Path.{fun_ext}
use Rattle.std.proofs.lemmas.Bool.Decides.{eqb_tells}
use Rattle.std.proofs.lemmas.Option.{slice_get_within}
use Rattle.blocks_subprocs.specs.Ends.{ends_of}
use Rattle.fate_laws.proofs.Items.{part_itself, part_one}
use Rattle.flow_model.specs.Fates.{Ends, is_settled}
use Rattle.flow_model.specs.Rows.{same_part}
use Rattle.flow_model.specs.ScopeContainers.{graph_in, graph_of}
use Rattle.flow_model.specs.Scopes.{Known, at, part, Runs, Start, scope_gives, gives, attempts, fate_given, started_at, scope_ends, output}
use Rattle.flow_model.specs.declared.graphs.Activity.{Activity}
use Rattle.flow_model.specs.declared.graphs.Container.{Container}
use Rattle.flow_model.specs.declared.graphs.Graph.{Graph, out-Graph}
use Rattle.flow_model.specs.declared.graphs.Template.{Template}
use Rattle.flow_model.specs.declared.graphs.Work.{Work, Program as RunsProgram, Block, Process}
use Rattle.flow_model.specs.declared.instances.Fate.{Fate}
use Rattle.flow_model.specs.declared.instances.Part.{Part}
use Rattle.flow_model.specs.declared.names.Name.{Name}
use Rattle.navigator.specs.Events.{ScopeChange, ChangesScope, ChangesState, ChangesInside, ChangesAt}
use Rattle.navigator.specs.Reading.{place_of, attempt_place}
use Rattle.navigator.specs.Steps.{Fields, fields}
use Rattle.navigator.specs.Views.{ShowsStart, ShowsNested, ShowsWork, ShowsScope, shows_attempt, ShowsActivity, ShowsEnds, ShowsWithin, Shows}
use Rattle.navigator.specs.declared.scopes.ActivityState.{ActivityState, Program, Nested}
use Rattle.navigator.specs.declared.scopes.NestedState.{NestedState, out-NestedState}
use Rattle.navigator.specs.declared.scopes.ScopeState.{ScopeState, out-ScopeState}
use Rattle.navigator.proofs.Places.{present, set_read}
use Rattle.navigator.proofs.RowLists.{started_numbered}
use Rattle.navigator.proofs.SameActivities.{Named, place_found}
use Rattle.navigator.proofs.ShownAgain.{shown_again, IsSameScope, outputs_as_before, fate_as_before, starts_as_before, ends_as_before}
use Rattle.view_laws.specs.Coming.{IsOpenAttempt}
use Rattle.view_laws.specs.Learning.{with_below}

-- ---- lists with another element

pub set_other : {X : Type 0} (xs : List X) (i j : ℕ) (y : X) → (j ≡ i → ⊥) → slice_get (slice_set xs i y) j ≡ slice_get xs j
set_other [] i j y apart = refl
set_other (x ∷ xs) zero zero y apart = absurd (apart refl)
set_other (x ∷ xs) zero (suc j) y apart = refl
set_other (x ∷ xs) (suc i) zero y apart = refl
set_other (x ∷ xs) (suc i) (suc j) y apart = set_other xs i j y (λ is. apart (ap suc is))

pub set_long : {X : Type 0} (xs : List X) (i : ℕ) (y : X) → length (slice_set xs i y) ≡ length xs
set_long xs i y = simp length-set

-- ---- what is known below a part

pub at_here : (q : Part) (j k : Known) → j.most ≡ k.most → at q (with_below q j k) ≡ j
at_here q j k most = rw (part_itself q, ← most) refl

pub at_other : (q r : Part) (j k : Known) → same_part q r ≡ false → at r (with_below q j k) ≡ at r k
at_other q r j k apart = rw apart refl

-- an attempt that hasn't told its end gives nothing, so what happens inside changes nothing of the scope around it
module _ (ts : List Template) (runs : Runs) (k j : Known) (q : Part) (given : j.given [] ≡ k.given (q ∷ [])) (closed : j.closed [] ≡ false) (unclosed : k.closed (q ∷ []) ≡ false) where
  scope_as_before : (o : Option Graph) (r : Part) (i : Container) → scope_gives (with_below q j k) runs o r i ≡ scope_gives k runs o r i
  scope_as_before None r i = refl
  scope_as_before (Some h) r i = go (same_part q r) refl
    where
      go : (b : Bool) → same_part q r ≡ b → scope_gives (with_below q j k) runs (Some h) r i ≡ scope_gives k runs (Some h) r i
      go false apart = rw apart refl
      go true same =
          let none : k.closed (r ∷ []) ≡ false = ap (λ u. k.closed (u ∷ [])) (sym (part_one q r same)) ∙ unclosed in
          rw (same, closed, none) refl

  item_as_before : (r : Part) → (with_below q j k).given (r ∷ []) ≡ k.given (r ∷ [])
  item_as_before r = go (same_part q r) refl
    where
      go : (b : Bool) → same_part q r ≡ b → (with_below q j k).given (r ∷ []) ≡ k.given (r ∷ [])
      go false apart = rw apart refl
      go true same = rw same (given ∙ ap (λ u. k.given (u ∷ [])) (part_one q r same))

  gives_as_before : (name : Name) (w : Work) (n : ℕ) (i : Container) → gives ts (with_below q j k) runs name w n i ≡ gives ts k runs name w n i
  gives_as_before name (RunsProgram p) n i = item_as_before (part name n)
  gives_as_before name (Block g) n i = scope_as_before (Some g) (part name n) i
  gives_as_before name (Process t) n i = scope_as_before (graph_of ts t) (part name n) i

  pub same_on_the_way : IsSameScope ts runs k (with_below q j k)
  same_on_the_way = record {
    most = refl;
    begun = refl;
    sent = refl;
    given = λ name w. fun_ext (λ n. fun_ext (λ i. gives_as_before name w n i));
  }

-- ---- one activity of which one scope changes

nested_way : (fate : Fate) (starts : List Start) (shows shows' : ShowsStart) (n n' : NestedState) (i : ℕ) (next : ScopeState) (start : Start) → ShowsNested fate starts shows n
    → slice_get starts i ≡ Some start → (out-NestedState n').scopes.items ≡ slice_set (out-NestedState n).scopes.items i next → (out-NestedState n').stage ≡ (out-NestedState n).stage
    → shows' start next → ((c : ℕ) (other : Start) (t : ScopeState) → (c ≡ i → ⊥) → slice_get starts c ≡ Some other → shows other t → shows' other t)
    → (inner : ScopeState) → slice_get (out-NestedState n).scopes.items i ≡ Some inner → ShowsNested fate starts shows' n'
nested_way fate starts shows shows' n n' i next start is begins scopes stage changed others inner there =
    let long : length (out-NestedState n').scopes.items ≡ length (out-NestedState n).scopes.items = ap length scopes ∙ set_long (out-NestedState n).scopes.items i next in
    record {
      stands = rw (stage, long) is.stands;
      count = long ∙ is.count;
      scopes = each;
    }
  where
    each : (c : ℕ) (other : Start) (t : ScopeState) → slice_get starts c ≡ Some other → slice_get (out-NestedState n').scopes.items c ≡ Some t → shows' other t
    each c other t from found = elim (eqb_tells c i) [
      | inl same ↦
          let here : slice_get (out-NestedState n').scopes.items i ≡ Some next = rw scopes (set_read (out-NestedState n).scopes.items i inner next there) in
          let this : Some t ≡ Some next = sym found ∙ ap (λ m. slice_get (out-NestedState n').scopes.items m) same.1 ∙ here in
          let that : Some other ≡ Some start = sym from ∙ ap (slice_get starts) same.1 ∙ begins in
          let t_is : t ≡ next = cc in
          let start_is : other ≡ start = cc in
          rw (t_is, start_is) changed
      | inr apart ↦
          let old : slice_get (out-NestedState n).scopes.items c ≡ Some t = sym (set_other (out-NestedState n).scopes.items i c next apart.1) ∙ ap (λ xs. slice_get xs c) (sym scopes) ∙ found in
          others c other t apart.1 from (is.scopes c other t from old)
    ]

module _ (fate fate' : Fate) (outs outs' : List Container) (starts starts' : List Start) (shows shows' : ShowsStart) (i : ℕ) (start : Start) (inner : ScopeState)
    (same : fate' ≡ fate) (list : starts' ≡ starts) (begins : slice_get starts i ≡ Some start)
    (change : ScopeState → ScopeState → Type 0) (changes : (next : ScopeState) → change inner next → shows' start next)
    (others : (c : ℕ) (other : Start) (t : ScopeState) → (c ≡ i → ⊥) → slice_get starts c ≡ Some other → shows other t → shows' other t) where
  nested_changed : (n n' : NestedState) → ShowsNested fate starts shows n → slice_get (out-NestedState n).scopes.items i ≡ Some inner → ChangesScope change i inner n n' → ShowsNested fate' starts' shows' n'
  nested_changed n n' is there c = rw (same, list) (nested_way fate starts shows shows' n n' i c.next start is begins c.scopes c.stage (changes c.next c.changes) others inner there)

  -- the state of a block or process activity goes on showing it where the scope that changes goes on
  work_way : (w : Work) (n : NestedState) (state : ActivityState) → ShowsWork w fate outs starts shows (Nested n) → slice_get (out-NestedState n).scopes.items i ≡ Some inner
      → ChangesState change i inner n state → ShowsWork w fate' outs' starts' shows' state
  work_way (RunsProgram w) n state is there c = absurd is
  work_way (Block g) n (Program p) is there c = absurd c
  work_way (Block g) n (Nested n') is there c = nested_changed n n' is there c
  work_way (Process t) n (Program p) is there c = absurd c
  work_way (Process t) n (Nested n') is there c = nested_changed n n' is there c

-- what runs a graph has a state with scopes
pub record HasScopes (fate : Fate) (starts : List Start) (shows : ShowsStart) (state : ActivityState) : Type 0 where
  pub nested : NestedState
  pub is : state ≡ Nested nested
  pub shown : ShowsNested fate starts shows nested

pub has_scopes : (ts : List Template) (w : Work) (h : Graph) (fate : Fate) (outs : List Container) (starts : List Start) (shows : ShowsStart) (state : ActivityState)
    → graph_in ts w ≡ Some h → ShowsWork w fate outs starts shows state → HasScopes fate starts shows state
has_scopes ts (RunsProgram w) h fate outs starts shows state none is = let never : None ≡ Some h = none in cc
has_scopes ts (Block g) h fate outs starts shows (Program p) runs is = absurd is
has_scopes ts (Block g) h fate outs starts shows (Nested n) runs is = record { nested = n; is = refl; shown = is }
has_scopes ts (Process t) h fate outs starts shows (Program p) runs is = absurd is
has_scopes ts (Process t) h fate outs starts shows (Nested n) runs is = record { nested = n; is = refl; shown = is }

-- the place of an attempt among those that have started
pub started_place : (ts : List Template) (k : Known) (runs : Runs) (g : Graph) (input : Container) (e : Ends) (a : ℕ) (activity : Activity) (i : ℕ) (start : Start)
    → slice_get (started_at ts k runs g input e a activity) i ≡ Some start → attempt_place start.attempt ≡ Some i
started_place ts k runs g input e a activity i start begins =
    let number : start.attempt ≡ i + 1 = started_numbered ts k runs g input e a activity i start begins in
    let next : i + 1 ≡ suc i = omega arith in
    rw (number, next) refl

-- ---- the scope around

module _ (ts : List Template) (runs : Runs) (below : ShowsScope) (k j : Known) (g : Graph) (input : Container) (q : Part) (qs : List Part)
    (named : Named g) (change : ScopeChange)
    (most : j.most ≡ k.most) (given : j.given [] ≡ k.given (q ∷ [])) (closed : j.closed [] ≡ false) (unclosed : k.closed (q ∷ []) ≡ false) where
  abbrev known : Known
  known = with_below q j k

  abbrev around : IsSameScope ts runs k known
  around = same_on_the_way ts runs k j q given closed unclosed

  -- the attempts but this one go on showing the view
  attempt_way : (name : Name) (o : Option Graph) (start : Start) (t : ScopeState) → same_part q (part name start.attempt) ≡ false
      → shows_attempt below k name o start t → shows_attempt below known name o start t
  attempt_way name None start t apart is = is
  attempt_way name (Some h) start t apart is = subst (λ u. below u h start.input t) (sym (at_other q (part name start.attempt) j k apart)) is

  apart_by_name : (name : Name) (n : ℕ) → (q.name ≡ name → ⊥) → same_part q (part name n) ≡ false
  apart_by_name name n apart = go (same_part q (part name n)) refl
    where
      go : (b : Bool) → same_part q (part name n) ≡ b → same_part q (part name n) ≡ false
      go false is = is
      go true is = absurd (apart (ap (λ (p : Part). p.name) (part_one q (part name n) is)))

  apart_by_number : (name : Name) (n : ℕ) → (q.attempt ≡ n → ⊥) → same_part q (part name n) ≡ false
  apart_by_number name n apart = go (same_part q (part name n)) refl
    where
      go : (b : Bool) → same_part q (part name n) ≡ b → same_part q (part name n) ≡ false
      go false is = is
      go true is = absurd (apart (ap (λ (p : Part). p.attempt) (part_one q (part name n) is)))

  module _ (e : Ends) (a i : ℕ) (activity : Activity) (h : Graph) (start : Start) (s s' : ScopeState)
      (is : slice_get (out-Graph g).activities a ≡ Some activity) (of : graph_in ts activity.work ≡ Some h) (this : part activity.name start.attempt ≡ q)
      (begins : slice_get (started_at ts k runs g input e a activity) i ≡ Some start)
      (inside : (t t' : ScopeState) → below (at q k) h start.input t → ChangesAt ts change qs h t t' → below j h start.input t')
      (shows : ShowsEnds ts k runs below g input e s) (changes : ChangesAt ts change (q ∷ qs) g s s') where
    at_q : q.name ≡ activity.name
    at_q = ap (λ (p : Part). p.name) (sym this)

    number : start.attempt ≡ q.attempt
    number = ap (λ (p : Part). p.attempt) this

    -- the attempt itself
    here_then : (t t' : ScopeState) → shows_attempt below k activity.name (Some h) start t → ChangesAt ts change qs h t t' → shows_attempt below known activity.name (Some h) start t'
    here_then t t' was c =
        let before : below (at q k) h start.input t = subst (λ u. below (at u k) h start.input t) this was in
        let after : below j h start.input t' = inside t t' before c in
        subst (λ u. below (at u known) h start.input t') (sym this) (subst (λ u. below u h start.input t') (sym (at_here q j k most)) after)

    abbrev old_states : List ActivityState
    old_states = (out-ScopeState s).states.items

    state_at : (x : ActivityState) × (slice_get old_states a ≡ Some x)
    state_at =
        let within : a < length (out-Graph g).activities = slice_get_within (out-Graph g).activities a activity is in
        let long = shows.stated in
        present old_states a (omega arith)

    scopes_at : HasScopes (fate_given ts k runs g input e a) (started_at ts k runs g input e a activity) (shows_attempt below k activity.name (graph_in ts activity.work)) state_at.0
    scopes_at =
        has_scopes ts activity.work h _ (attempts ts k runs g input e a) _ (shows_attempt below k activity.name (graph_in ts activity.work)) state_at.0 of
        (shows.states a activity state_at.0 is state_at.1)

    abbrev old_scopes : List ScopeState
    old_scopes = (out-NestedState scopes_at.nested).scopes.items

    inner_at : (t : ScopeState) × (slice_get old_scopes i ≡ Some t)
    inner_at =
        let within : i < length (started_at ts k runs g input e a activity) = slice_get_within (started_at ts k runs g input e a activity) i start begins in
        let long = scopes_at.shown.count in
        present old_scopes i (omega arith)

    changed : ChangesInside (ChangesAt ts change qs h) a i inner_at.0 scopes_at.nested s s'
    changed =
        let place : place_of g q.name ≡ Some a = ap (place_of g) at_q ∙ place_found g a activity named is in
        let attempt : attempt_place q.attempt ≡ Some i = ap attempt_place (sym number) ∙ started_place ts k runs g input e a activity i start begins in
        let state : slice_get (fields s).states a ≡ Some (Nested scopes_at.nested) = state_at.1 ∙ ap Some scopes_at.is in
        changes a i activity h scopes_at.nested inner_at.0 place is of attempt state inner_at.1

    this_activity : ShowsActivity ts known runs below g input e a activity changed.state
    this_activity =
        work_way (fate_given ts k runs g input e a) (fate_given ts known runs g input e a) (attempts ts k runs g input e a) (attempts ts known runs g input e a)
        (started_at ts k runs g input e a activity) (started_at ts known runs g input e a activity)
        (shows_attempt below k activity.name (graph_in ts activity.work)) (shows_attempt below known activity.name (graph_in ts activity.work)) i start inner_at.0
        (fate_as_before ts runs k known g input around e a) (starts_as_before ts runs k known g input around e a activity) begins
        (ChangesAt ts change qs h)
        (λ next c. rw of (here_then inner_at.0 next (rw of at (scopes_at.shown.scopes i start inner_at.0 begins inner_at.1)) c))
        (λ c other t apart from was. attempt_way activity.name (graph_in ts activity.work) other t (apart_by_number activity.name other.attempt (others c other apart from)) was)
        activity.work scopes_at.nested changed.state
        (subst (λ (x : ActivityState). ShowsWork activity.work (fate_given ts k runs g input e a) (attempts ts k runs g input e a) (started_at ts k runs g input e a activity)
        (shows_attempt below k activity.name (graph_in ts activity.work)) x) scopes_at.is (shows.states a activity state_at.0 is state_at.1))
        inner_at.1 changed.inside
      where
        others : (c : ℕ) (other : Start) → (c ≡ i → ⊥) → slice_get (started_at ts k runs g input e a activity) c ≡ Some other → q.attempt ≡ other.attempt → ⊥
        others c other apart from same =
            let mine : start.attempt ≡ i + 1 = started_numbered ts k runs g input e a activity i start begins in
            let its : other.attempt ≡ c + 1 = started_numbered ts k runs g input e a activity c other from in
            let n = number in
            let e' : c ≡ i = omega arith in
            apart e'

    each_activity : (x : ℕ) (y : Activity) (state : ActivityState) → slice_get (out-Graph g).activities x ≡ Some y → slice_get (fields s').states x ≡ Some state
        → ShowsActivity ts known runs below g input e x y state
    each_activity x y state there found = elim (eqb_tells x a) [
      | inl same ↦
          let new : slice_get (fields s').states a ≡ Some changed.state
          = ap (λ (f : Fields). slice_get f.states a) changed.around ∙ set_read old_states a state_at.0 changed.state state_at.1 in
          let that : Some state ≡ Some changed.state = sym found ∙ ap (slice_get (fields s').states) same.1 ∙ new in
          let what : Some y ≡ Some activity = sym there ∙ ap (slice_get (out-Graph g).activities) same.1 ∙ is in
          let state_is : state ≡ changed.state = cc in
          let y_is : y ≡ activity = cc in
          rw (state_is, y_is, same.1) this_activity
      | inr apart ↦
          let as_old : slice_get old_states x ≡ Some state
          = sym (set_other old_states a x changed.state apart.1) ∙ ap (λ (f : Fields). slice_get f.states x) (sym changed.around) ∙ found in
          shown_again y.work _ _ _ _ _ _ (shows_attempt below k y.name (graph_in ts y.work)) (shows_attempt below known y.name (graph_in ts y.work)) state
          (fate_as_before ts runs k known g input around e x) (λ opened. outputs_as_before ts runs k known g input around e x) (starts_as_before ts runs k known g input around e x y)
          (λ other t was. attempt_way y.name (graph_in ts y.work) other t (apart_by_name y.name other.attempt (λ same. apart.1 (named x a y activity there is (sym same ∙ at_q)))) was)
          (shows.states x y state there as_old)
    ]

    pub scope_way : ShowsEnds ts known runs below g input e s'
    scope_way = record {
      begun = ap (λ (f : Fields). f.begun) changed.around ∙ shows.begun;
      reads = ap (λ (f : Fields). f.input) changed.around ∙ shows.reads;
      tallied = ap (λ (f : Fields). length f.tallies) changed.around ∙ shows.tallied;
      tallies = λ b t found. shows.tallies b t (sym (ap (λ (f : Fields). slice_get f.tallies b) changed.around) ∙ found);
      ended = ap (λ (f : Fields). length f.ends) changed.around ∙ shows.ended;
      ends = λ b. ap (λ (f : Fields). ends_of f.ends b) changed.around ∙ shows.ends b;
      stated = ap (λ (f : Fields). length f.states) changed.around ∙ set_long old_states a changed.state ∙ shows.stated;
      states = each_activity;
      unsettled = ap (λ (f : Fields). f.unsettled) changed.around ∙ shows.unsettled ∙ ap (λ (f : Fields). count_by (λ x. not (is_settled x)) f.ends) (sym changed.around);
    }

-- where the scope of an open attempt goes on showing the view, so does the scope around it
pub way_shows : (ts : List Template) (depth : ℕ) (k j : Known) (g : Graph) (input : Container) (q : Part) (qs : List Part) (s s' : ScopeState) (change : ScopeChange) (within : Graph → Container → Type 0)
    → Named g → j.most ≡ k.most → j.given [] ≡ k.given (q ∷ []) → j.closed [] ≡ k.closed (q ∷ [])
    → IsOpenAttempt ts (suc depth) k g input q within
    → ((h : Graph) (i : Container) (t t' : ScopeState) → within h i → Shows ts depth (at q k) h i t → ChangesAt ts change qs h t t' → Shows ts depth j h i t')
    → Shows ts (suc depth) k g input s → ChangesAt ts change (q ∷ qs) g s s' → Shows ts (suc depth) (with_below q j k) g input s'
way_shows ts depth k j g input q qs s s' change within named most given closed attempt inside shows changes =
    let runs : Runs = output ts (suc depth) in
    let shut : j.closed [] ≡ false = closed ∙ attempt.unclosed in
    let e : Ends = scope_ends ts k runs g input in
    let same : scope_ends ts (with_below q j k) runs g input ≡ e = ends_as_before ts runs k (with_below q j k) g input (same_on_the_way ts runs k j q given shut attempt.unclosed) in
    subst (λ E. ShowsEnds ts (with_below q j k) runs (ShowsWithin ts (suc depth)) g input E s') (sym same)
    (scope_way ts runs (ShowsWithin ts (suc depth)) k j g input q qs named change most given shut attempt.unclosed e attempt.place attempt.number attempt.activity attempt.graph attempt.start s s'
    attempt.is attempt.of attempt.named attempt.started
    (λ t t' was c. inside attempt.graph attempt.start.input t t' attempt.within was c) shows changes)
