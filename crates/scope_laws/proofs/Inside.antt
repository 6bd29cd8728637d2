-- What the state of a root says of the scope to which a path leads.
use Rattle.std.proofs.Common.{◌≡◌, ℕ, zero, suc, ◌≤◌, ◌<◌, Bool, true, false, List, [], ◌∷◌, length, refl, sym, ap, ◌∙◌, Option, Some, arith, subst}
use Rattle.std.proofs.lemmas.Option.{none-some, option_and_then_some, slice_get_within}
use Rattle.std.specs.Prelude.{is_none, slice_get, option_and_then}
use Rattle.fate_laws.specs.WellFormed.{Well}
use Rattle.flow_model.specs.Fates.{is_settled}
use Rattle.flow_model.specs.ScopeContainers.{graph_in}
use Rattle.flow_model.specs.Scopes.{Known, at, all_of, Start, part, output, tree_ends, tree_fate}
use Rattle.flow_model.specs.declared.graphs.Activity.{Activity}
use Rattle.flow_model.specs.declared.graphs.Container.{Container}
use Rattle.flow_model.specs.declared.graphs.Graph.{Graph, out-Graph}
use Rattle.flow_model.specs.declared.graphs.Template.{Template}
use Rattle.flow_model.specs.declared.graphs.Work.{Work, Program as RunsProgram, Block, Process}
use Rattle.flow_model.specs.declared.instances.Part.{Part}
use Rattle.navigator.proofs.Places.{present}
use Rattle.navigator.proofs.ReadScopes.{shown_fate}
use Rattle.navigator.proofs.RowLists.{started_numbered, nested_shows}
use Rattle.navigator.proofs.SameActivities.{Named, place_found}
use Rattle.navigator.specs.Items.{Stand, stand, both, into_place, into}
use Rattle.navigator.specs.Reading.{place_of, inner_of, hold_in, with_hold}
use Rattle.navigator.specs.Views.{ShowsNested, ShowsWithin, Shows, shows_attempt}
use Rattle.navigator.specs.declared.scopes.ActivityState.{ActivityState, Program, Nested}
use Rattle.navigator.specs.declared.scopes.NestedState.{NestedState, out-NestedState}
use Rattle.navigator.specs.declared.scopes.ScopeState.{ScopeState, out-ScopeState}
use Rattle.root_laws.proofs.OpenItems.{scope_started}
use Rattle.view_laws.proofs.DueParts.{scope_due}
use Rattle.view_laws.proofs.Honest.{Honest, Full}
use Rattle.view_laws.proofs.QuietScopes.{tree_quiet, tree_quiet_fate}
use Rattle.view_laws.proofs.ShownFates.{tree_right}
use Rattle.view_laws.proofs.SoundScopes.{tree_sound}
use Rattle.view_laws.proofs.StartedParts.{HasScope, listed_starts, starts_listed}
use Rattle.view_laws.proofs.Trusting.{tops_begin, tops_end, tops_signal, tree_full, tree_honest}
use Rattle.view_laws.proofs.NothingDue.{nothing}
use Rattle.view_laws.proofs.WholeRuns.{running_is, signal_due, end_due, root_begun, signal_is, begin_is, end_is}
use Rattle.view_laws.specs.Coming.{started_in}
use Rattle.view_laws.specs.LegalRuns.{IsStartedAttempt}
use Rattle.view_laws.specs.Messages.{Note, BeginNote, SignalNote, EndNote, due_in}
use Rattle.view_laws.specs.Queues.{Engine, times, queue, TakesFronts}
use Rattle.view_laws.specs.Runs.{Root, Event, is_stopped, running, has_started, seen, engine}
use Rattle.scope_laws.proofs.Starts.{tree_start_kept, tree_start_back}
use Rattle.scope_laws.specs.Scopes.{scope_at, LeadsTo, IsStartedScope, SaysRight, SaysAll}

module _ (r : Root) (qf : Note → ℕ) where
  abbrev x : Engine Note Event
  x = engine r qf

  -- ---- what counts in a scope is due there, and the other way round

  -- each signal that counts is due, and so is each end
  pub record AreTold (ts : List Template) (depth : ℕ) (k : Known) (g : Graph) (i : Container) : Type 0 where
    pub signals : (p : List Part) (a b : ℕ) (v : Bool) (o : Option Bool) → k.sent p a b o ≡ Some v → 1 ≤ times x (due_in ts depth k g i) (SignalNote p a b v)
    pub ends : (q : Part) (p : List Part) → k.closed (q ∷ p) ≡ true → 1 ≤ times x (due_in ts depth k g i) (EndNote (q ∷ p))

  -- all that is due counts
  pub record AreTaken (ts : List Template) (depth : ℕ) (k : Known) (g : Graph) (i : Container) : Type 0 where
    pub told : AreTold ts depth k g i
    pub begun : k.begun [] ≡ true
    pub sent : (p : List Part) (a b : ℕ) (v : Bool) (o : Option Bool) → 1 ≤ times x (due_in ts depth k g i) (SignalNote p a b v) → is_none (k.sent p a b o) ≡ false
    pub begins : (p : List Part) → 1 ≤ times x (due_in ts depth k g i) (BeginNote p) → k.begun p ≡ true
    pub closes : (p : List Part) → 1 ≤ times x (due_in ts depth k g i) (EndNote p) → k.closed p ≡ true

  told_inside : (ts : List Template) (depth : ℕ) (k : Known) (g : Graph) (i : Container) → Well ts (suc depth) g → AreTold ts (suc depth) k g i
      → (q : Part) (scope : HasScope ts (suc depth) k g i q) → AreTold ts depth (at q k) scope.graph scope.input
  told_inside ts depth k g i well told q scope = record {
    signals = λ p a b v o was.
        let w = told.signals (q ∷ p) a b v o was in
        let t = scope_due r qf ts depth k g i well q scope (SignalNote p a b v) in
        let z = tops_signal r qf k q (output ts (suc depth) (at q k) scope.graph scope.input) p a b v in
        omega arith;
    ends = λ s p was.
        let w = told.ends q (s ∷ p) was in
        let t = scope_due r qf ts depth k g i well q scope (EndNote (s ∷ p)) in
        let z = tops_end r qf k q (output ts (suc depth) (at q k) scope.graph scope.input) s p in
        omega arith;
  }

  taken_inside : (ts : List Template) (depth : ℕ) (k : Known) (g : Graph) (i : Container) → Well ts (suc depth) g → AreTaken ts (suc depth) k g i
      → (q : Part) (scope : HasScope ts (suc depth) k g i q) → AreTaken ts depth (at q k) scope.graph scope.input
  taken_inside ts depth k g i well taken q scope = record {
    told = told_inside ts depth k g i well taken.told q scope;
    begun = taken.begins (q ∷ [])
        (let t = scope_due r qf ts depth k g i well q scope (BeginNote []) in
        let z = tops_begin r qf k q (output ts (suc depth) (at q k) scope.graph scope.input) in
        omega arith);
    sent = λ p a b v o some. taken.sent (q ∷ p) a b v o (let t = scope_due r qf ts depth k g i well q scope (SignalNote p a b v) in omega arith);
    begins = λ p some. taken.begins (q ∷ p) (let t = scope_due r qf ts depth k g i well q scope (BeginNote p) in omega arith);
    closes = λ p some. taken.closes (q ∷ p) (let t = scope_due r qf ts depth k g i well q scope (EndNote p) in omega arith);
  }

  honest_of : (ts : List Template) (depth : ℕ) (k : Known) (g : Graph) (i : Container) → Well ts depth g → AreTold ts depth k g i → Honest ts depth k g i
  honest_of ts depth k g i well told = tree_honest r qf ts depth k g i well told.signals told.ends

  full_of : (ts : List Template) (depth : ℕ) (k : Known) (g : Graph) (i : Container) → Well ts depth g → AreTaken ts depth k g i → Full ts depth k g i
  full_of ts depth k g i well taken = tree_full r qf ts depth k g i well taken.begun taken.told.signals taken.sent taken.begins taken.closes

  -- ---- one scope that shows its view

  says_right : (ts : List Template) (depth : ℕ) (k : Known) (input : Container) (here : Stand) → Shows ts depth k here.graph input here.scope → Well ts depth here.graph
      → AreTold ts depth k here.graph input → SaysRight ts here depth (all_of k) here.graph input
  says_right ts depth k input here shows well told = record {
    graph = refl;
    ends = λ a settled.
        shows.ends a ∙ sym ((tree_sound ts depth k here.graph input well (honest_of ts depth k here.graph input well told)).kept a (ap is_settled (sym (shows.ends a)) ∙ settled));
    fates = λ a settled.
        shown_fate ts depth k here.graph input here.scope shows a
        ∙ ap (with_hold (hold_in here.scope a))
        (sym ((tree_right ts depth k here.graph input well (honest_of ts depth k here.graph input well told)).settled a (ap is_settled (sym (shows.ends a)) ∙ settled)));
  }

  says_all : (ts : List Template) (depth : ℕ) (k : Known) (input : Container) (here : Stand) → Shows ts depth k here.graph input here.scope → Well ts depth here.graph
      → AreTaken ts depth k here.graph input → SaysAll ts here depth (all_of k) here.graph input
  says_all ts depth k input here shows well taken =
      let full = full_of ts depth k here.graph input well taken in
      record {
        graph = refl;
        ends = λ a. shows.ends a ∙ ap (λ e. e a) (tree_quiet ts depth k here.graph input well full);
        fates = λ a. shown_fate ts depth k here.graph input here.scope shows a ∙ ap (with_hold (hold_in here.scope a)) (tree_quiet_fate ts depth k here.graph input well full a);
      }

  -- ---- along a path

  -- an attempt whose scope the state has has started by the completions alone
  attempt_kept : (ts : List Template) (depth : ℕ) (k : Known) (g : Graph) (input : Container) (q : Part) (inside : Graph → Container → Type 0) → Well ts depth g → AreTold ts depth k g input
      → (scope : HasScope ts depth k g input q) → inside scope.graph scope.input → IsStartedAttempt ts depth (all_of k) g input q inside
  attempt_kept ts depth k g input q inside well told scope within =
      let kept = tree_start_kept r qf ts depth k g input well (honest_of ts depth k g input well told) scope.place scope.activity scope.attempt scope.input scope.starts in
      let listed = starts_listed ts depth (all_of k) g input scope.place scope.activity scope.attempt scope.input kept in
      record {
        place = scope.place;
        activity = scope.activity;
        graph = scope.graph;
        number = listed.0;
        start = record { attempt = scope.attempt; input = scope.input };
        is = scope.starts.is;
        of = scope.of;
        named = scope.named;
        started = listed.1;
        within = within;
      }

  module _ (ts : List Template) (st : Stand) (Says : ℕ → Known → Graph → Container → Type 0) (Counts : ℕ → Known → Graph → Container → Type 0)
      (told : (depth : ℕ) (k : Known) (g : Graph) (i : Container) → Counts depth k g i → AreTold ts depth k g i)
      (inside : (depth : ℕ) (k : Known) (g : Graph) (i : Container) → Well ts (suc depth) g → Counts (suc depth) k g i
      → (q : Part) (scope : HasScope ts (suc depth) k g i q) → Counts depth (at q k) scope.graph scope.input)
      (says : (depth : ℕ) (k : Known) (input : Container) → Shows ts depth k st.graph input st.scope → Well ts depth st.graph → Counts depth k st.graph input → Says depth (all_of k) st.graph input) where
    pub along : (parts : List Part) (depth : ℕ) (k : Known) (input : Container) (here : Stand) → Shows ts depth k here.graph input here.scope → Well ts depth here.graph
        → Counts depth k here.graph input → scope_at ts parts here ≡ Some st → LeadsTo Says ts depth (all_of k) here.graph input parts
    along [] depth k input here shows well counts found =
        let same : here ≡ st = cc in
        let P : Stand → Type 0 = λ u. Shows ts depth k u.graph input u.scope → Well ts depth u.graph → Counts depth k u.graph input → Says depth (all_of k) u.graph input in
        subst P (sym same) (says depth k input) shows well counts
    along (q ∷ qs) zero k input here shows well counts found =
        option_and_then_some (scope_at ts qs) (into ts here q) st found (λ step entered rest. absurd ((scope_started ts zero k input here shows q step entered).shows))
    along (q ∷ qs) (suc depth) k input here shows well counts found =
        option_and_then_some (scope_at ts qs) (into ts here q) st found (λ step entered rest.
        let s = scope_started ts (suc depth) k input here shows q step entered in
        let scope : HasScope ts (suc depth) k here.graph input q = record {
          place = s.place;
          activity = s.activity;
          attempt = s.start.attempt;
          input = s.start.input;
          graph = step.graph;
          named = s.named;
          of = s.of;
          starts = listed_starts ts (suc depth) k here.graph input s.place s.activity s.number s.start s.is s.started;
        } in
        attempt_kept ts (suc depth) k here.graph input q (λ h i. LeadsTo Says ts depth (at q (all_of k)) h i qs) well (told (suc depth) k here.graph input counts) scope
        (along qs depth (at q k) s.start.input step s.shows (well.inside s.place s.activity s.is step.graph s.of) (inside depth k here.graph input well counts q scope) rest))

  pub right_along : (ts : List Template) (st : Stand) (parts : List Part) (depth : ℕ) (k : Known) (input : Container) (here : Stand) → Shows ts depth k here.graph input here.scope
      → Well ts depth here.graph → AreTold ts depth k here.graph input → scope_at ts parts here ≡ Some st → LeadsTo (SaysRight ts st) ts depth (all_of k) here.graph input parts
  right_along ts st = along ts st (SaysRight ts st) (AreTold ts) (λ depth k g i t. t) (told_inside ts) (λ depth k input. says_right ts depth k input st)

  pub all_along : (ts : List Template) (st : Stand) (parts : List Part) (depth : ℕ) (k : Known) (input : Container) (here : Stand) → Shows ts depth k here.graph input here.scope
      → Well ts depth here.graph → AreTaken ts depth k here.graph input → scope_at ts parts here ≡ Some st → LeadsTo (SaysAll ts st) ts depth (all_of k) here.graph input parts
  all_along ts st = along ts st (SaysAll ts st) (AreTaken ts) (λ depth k g i t. t.told) (taken_inside ts) (λ depth k input. says_all ts depth k input st)

  -- ---- the other way round

  -- the scope of an attempt that has started by the view is there, and shows its view
  record IsThere (ts : List Template) (depth : ℕ) (k : Known) (here : Stand) (q : Part) (h : Graph) (i : Container) : Type 0 where
    scope : ScopeState
    enters : into ts here q ≡ Some (stand h scope)
    shows : ShowsWithin ts depth (at q k) h i scope

  module _ (ts : List Template) (depth : ℕ) (k : Known) (input : Container) (here : Stand) (shows : Shows ts depth k here.graph input here.scope)
      (named : Named here.graph) (q : Part) (a : ℕ) (activity : Activity) (h : Graph) (number : ℕ) (start : Start) (is : slice_get (out-Graph here.graph).activities a ≡ Some activity)
      (of : graph_in ts activity.work ≡ Some h) (name : part activity.name start.attempt ≡ q) (started : slice_get (started_in ts depth k here.graph input a activity) number ≡ Some start) where
    enter_at : (s : ScopeState) → place_of here.graph q.name ≡ Some a → inner_of here.scope a q.attempt ≡ Some s → into ts here q ≡ Some (stand h s)
    enter_at s place inner =
        ap (option_and_then (into_place ts here q.attempt)) place
        ∙ ap (option_and_then (λ (x : Activity). both (graph_in ts x.work) (inner_of here.scope a q.attempt))) is
        ∙ ap (λ o. both o (inner_of here.scope a q.attempt)) of
        ∙ ap (both (Some h)) inner

    in_nested : (n : NestedState) → slice_get (out-ScopeState here.scope).states.items a ≡ Some (Nested n)
        → ShowsNested (tree_fate ts depth k here.graph input a) (started_in ts depth k here.graph input a activity) (shows_attempt (ShowsWithin ts depth) k activity.name (graph_in ts activity.work)) n
        → IsThere ts depth k here q h start.input
    in_nested n stated nested =
        let less : number < length (started_in ts depth k here.graph input a activity) = slice_get_within _ number start started in
        let count : length (out-NestedState n).scopes.items ≡ length (started_in ts depth k here.graph input a activity) = nested.count in
        let scope = present (out-NestedState n).scopes.items number (omega arith) in
        let numbered = started_numbered ts k (output ts depth) here.graph input (tree_ends ts depth k here.graph input) a activity number start started in
        let attempt : q.attempt ≡ suc number = sym (ap (λ (p : Part). p.attempt) name) ∙ (omega arith) in
        let place : place_of here.graph q.name ≡ Some a = ap (λ (p : Part). place_of here.graph p.name) (sym name) ∙ place_found here.graph a activity named is in
        let inner : inner_of here.scope a q.attempt ≡ Some scope.0 = rw (stated, attempt) scope.1 in
        let shown : ShowsWithin ts depth (at (part activity.name start.attempt) k) h start.input scope.0
        = subst (λ (o : Option Graph). shows_attempt (ShowsWithin ts depth) k activity.name o start scope.0) of (nested.scopes number start scope.0 started scope.1) in
        record {
          scope = scope.0;
          enters = enter_at scope.0 place inner;
          shows = subst (λ (p : Part). ShowsWithin ts depth (at p k) h start.input scope.0) name shown;
        }

    of_work : (w : Work) (state : ActivityState) → activity.work ≡ w → slice_get (out-ScopeState here.scope).states.items a ≡ Some state → IsThere ts depth k here q h start.input
    of_work (RunsProgram p) state work stated = absurd (none-some h (rw work at of))
    of_work (Block g) (Nested n) work stated = in_nested n stated (nested_shows activity.work _ _ _ _ n (shows.states a activity (Nested n) is stated))
    of_work (Process t) (Nested n) work stated = in_nested n stated (nested_shows activity.work _ _ _ _ n (shows.states a activity (Nested n) is stated))
    of_work (Block g) (Program p) work stated = absurd (rw work at (shows.states a activity (Program p) is stated))
    of_work (Process t) (Program p) work stated = absurd (rw work at (shows.states a activity (Program p) is stated))

    there_is : IsThere ts depth k here q h start.input
    there_is =
        let less : a < length (out-Graph here.graph).activities = slice_get_within _ a activity is in
        let stated = shows.stated in
        let state = present (out-ScopeState here.scope).states.items a (omega arith) in
        of_work activity.work state.0 refl state.1

  pub found_along : (ts : List Template) (parts : List Part) (depth : ℕ) (k : Known) (input : Container) (here : Stand) → Shows ts depth k here.graph input here.scope → Well ts depth here.graph
      → AreTaken ts depth k here.graph input → IsStartedScope ts depth (all_of k) here.graph input parts → (st : Stand) × (scope_at ts parts here ≡ Some st)
  found_along ts [] depth k input here shows well taken started = (here, refl)
  found_along ts (q ∷ qs) zero k input here shows well taken started = absurd started
  found_along ts (q ∷ qs) (suc depth) k input here shows well taken started =
      let s = listed_starts ts (suc depth) (all_of k) here.graph input started.place started.activity started.number started.start started.is started.started in
      let full = full_of ts (suc depth) k here.graph input well taken in
      let back = tree_start_back r qf ts (suc depth) k here.graph input well full started.place started.activity started.start.attempt started.start.input s in
      let listed = starts_listed ts (suc depth) k here.graph input started.place started.activity started.start.attempt started.start.input back in
      let scope : HasScope ts (suc depth) k here.graph input q = record {
        place = started.place;
        activity = started.activity;
        attempt = started.start.attempt;
        input = started.start.input;
        graph = started.graph;
        named = started.named;
        of = started.of;
        starts = back;
      } in
      let step = there_is ts (suc depth) k input here shows well.named q started.place started.activity started.graph listed.0 started.start started.is started.of started.named listed.1 in
      let rest = found_along ts qs depth (at q k) started.start.input (stand started.graph step.scope) step.shows
      (well.inside started.place started.activity started.is started.graph started.of) (taken_inside ts depth k here.graph input well taken q scope) started.within in
      (rest.0, ap (option_and_then (scope_at ts qs)) step.enters ∙ rest.1)

  -- ---- the root's own scope

  module _ (well : Well r.templates r.depth r.graph) (h : List Event) (fronts : TakesFronts x h) where
    pub root_told : AreTold r.templates r.depth (seen (running h)) r.graph r.input
    root_told = record {
      signals = signal_due r qf well h fronts (nothing r qf);
      ends = end_due r qf well h fronts (nothing r qf);
    }

    pub root_taken : is_stopped h ≡ false → has_started h ≡ true → ((n : ℕ) → queue x h n ≡ []) → AreTaken r.templates r.depth (seen h) r.graph r.input
    root_taken open_ started empty = record {
      told = subst (λ (l : List Event). AreTold r.templates r.depth (seen l) r.graph r.input) (running_is h open_) root_told;
      begun = root_begun r qf well h fronts (nothing r qf) open_ started empty;
      sent = signal_is r qf well h fronts (nothing r qf) open_ started empty;
      begins = begin_is r qf well h fronts (nothing r qf) open_ started empty;
      closes = end_is r qf well h fronts (nothing r qf) open_ started empty;
    }
