-- An item that the state of a scope shows as ready or running is awaited there.
use Rattle.std.proofs.Common.{◌≡◌, ℕ, zero, suc, ◌+◌, ◌<◌, ◌==◌, Bool, true, false, List, [], ◌∷◌, length, Option, Some, None, cond, refl, ap, sym, ◌∙◌, subst, arith}
use Rattle.std.proofs.lemmas.List.Quantifiers.{position-Some}
use Rattle.std.proofs.lemmas.Option.{none-some, option_and_then_some, get_or_from_slice_get, slice_get_within}
use Rattle.std.proofs.lemmas.Slice.Eq.{bytes_eq-Decides}
use Rattle.std.specs.Prelude.{slice_get, option_and_then, bytes_eq, nat_le, ◌&&◌}
use Rattle.activity_states.specs.States.{State, waiting, dead, opened, finished, fate_of, open_fate, held}
use Rattle.fate_laws.proofs.Items.{eqb_one}
use Rattle.flow_model.specs.ScopeContainers.{graph_in}
use Rattle.flow_model.specs.Scopes.{Known, at, part, Start, output, tree_ends}
use Rattle.flow_model.specs.declared.graphs.Activity.{Activity}
use Rattle.flow_model.specs.declared.graphs.Container.{Container}
use Rattle.flow_model.specs.declared.graphs.Graph.{Graph, out-Graph}
use Rattle.flow_model.specs.declared.graphs.Program.{Program as ProgramName}
use Rattle.flow_model.specs.declared.graphs.Template.{Template}
use Rattle.flow_model.specs.declared.graphs.Work.{Work, Program as RunsProgram, Block, Process}
use Rattle.flow_model.specs.declared.instances.Fate.{Fate}
use Rattle.flow_model.specs.declared.instances.Fate.TheVariants.{Ready}
use Rattle.flow_model.specs.declared.instances.Hold.{Hold}
use Rattle.flow_model.specs.declared.instances.Hold.TheVariants.{Nobody, Person, Agent}
use Rattle.flow_model.specs.declared.instances.Part.{Part}
use Rattle.flow_model.specs.declared.instances.Phase.TheVariants.{Ended}
use Rattle.flow_model.specs.declared.names.Name.{Name}
use Rattle.navigator.proofs.Places.{present}
use Rattle.navigator.proofs.RowLists.{started_numbered}
use Rattle.navigator.specs.Items.{Stand, attempts_in, entry_of, both, into_place, into, Entry, entry_of_state, entry, entry_here, entry_at, phase_of}
use Rattle.navigator.specs.Reading.{place_of, scope_of, inner_of}
use Rattle.navigator.specs.Views.{ShowsNested, ShowsStart, ShowsWork, ShowsWithin, Shows, shows_attempt}
use Rattle.navigator.specs.declared.scopes.ActivityState.{ActivityState, Program, Nested}
use Rattle.navigator.specs.declared.scopes.NestedState.{NestedState, out-NestedState}
use Rattle.navigator.specs.declared.scopes.ScopeState.{ScopeState, out-ScopeState}
use Rattle.view_laws.specs.Coming.{started_in}
use Rattle.view_laws.specs.LegalRuns.{IsAwaited, Awaits}

-- the activity to which a name leads has this name
found_name : (g : Graph) (name : Name) (a : ℕ) (activity : Activity) → place_of g name ≡ Some a → slice_get (out-Graph g).activities a ≡ Some activity → activity.name ≡ name
found_name g name a activity found is =
    let passes = (position-Some (λ (x : Activity). bytes_eq x.name name) (out-Graph g).activities a activity found).1 in
    let there = get_or_from_slice_get (out-Graph g).activities a activity activity is in
    (bytes_eq-Decides activity.name name).0 (ap (λ (x : Activity). bytes_eq x.name name) (sym there) ∙ passes)

-- ---- one item

-- an open item is ready, were it held by nobody
open_ready : (p : State) (n : ℕ) → (phase_of (fate_of p) n ≡ Ended → ⊥) → fate_of (held p Nobody) ≡ Ready n
open_ready waiting n goes = absurd (goes refl)
open_ready dead n goes = absurd (goes refl)
open_ready (finished cs) n goes = absurd (goes refl)
open_ready (opened cs hold takes since) n goes = ap Ready (eqb_one (length cs + 1) n (same hold goes ((length cs + 1) == n) refl))
  where
    same : (hold : Hold) → (phase_of (open_fate hold (length cs + 1)) n ≡ Ended → ⊥) → (b : Bool) → ((length cs + 1) == n) ≡ b → ((length cs + 1) == n) ≡ true
    same hold goes true is = is
    same Nobody goes false is = absurd (goes (rw is refl))
    same (Person name) goes false is = absurd (goes (rw is refl))
    same (Agent take) goes false is = absurd (goes (rw is refl))

-- only a program activity has a state with items
record ShowsItem (w : Work) (fate : Fate) (p : State) : Type 0 where
  program : ProgramName
  runs : w ≡ RunsProgram program
  stands : fate_of (held p Nobody) ≡ fate

shown_item : (w : Work) (fate : Fate) (outs : List Container) (starts : List Start) (shows : ShowsStart) (p : State) → ShowsWork w fate outs starts shows (Program p) → ShowsItem w fate p
shown_item (RunsProgram program) fate outs starts shows p is = record { program = program; runs = refl; stands = is.stands }
shown_item (Block g) fate outs starts shows p is = absurd is
shown_item (Process t) fate outs starts shows p is = absurd is

module _ (ts : List Template) (depth : ℕ) (k : Known) (input : Container) (here : Stand) (shows : Shows ts depth k here.graph input here.scope) (q : Part) (e : Entry)
    (goes : phase_of (fate_of e.state) e.attempt ≡ Ended → ⊥) where
  item_of : (a : ℕ) (activity : Activity) (state : ActivityState) → place_of here.graph q.name ≡ Some a → slice_get (out-Graph here.graph).activities a ≡ Some activity
      → slice_get (out-ScopeState here.scope).states.items a ≡ Some state → entry_of_state here q.attempt a activity state ≡ Some e → IsAwaited ts depth k here.graph input q
  item_of a activity (Nested n) place is there entered = absurd (none-some e entered)
  item_of a activity (Program p) place is there entered = go (nat_le 1 q.attempt && nat_le q.attempt (attempts_in (fate_of p))) entered
    where
      go : (b : Bool) → cond b (Some (entry_of here.graph here.scope a activity p q.attempt)) None ≡ Some e → IsAwaited ts depth k here.graph input q
      go false entered = absurd (none-some e entered)
      go true entered =
          let same : entry_of here.graph here.scope a activity p q.attempt ≡ e = cc in
          let goes' : phase_of (fate_of p) q.attempt ≡ Ended → ⊥ = λ ended. goes (ap (λ (x : Entry). phase_of (fate_of x.state) x.attempt) (sym same) ∙ ended) in
          let item = shown_item activity.work _ _ _ _ p (shows.states a activity (Program p) is there) in
          record {
            place = a;
            activity = activity;
            program = item.program;
            is = is;
            runs = item.runs;
            name = found_name here.graph q.name a activity place is;
            ready = sym item.stands ∙ open_ready p q.attempt goes';
          }

  item_at : (a : ℕ) → place_of here.graph q.name ≡ Some a → (activity : Option Activity) (state : Option ActivityState) → slice_get (out-Graph here.graph).activities a ≡ activity
      → slice_get (out-ScopeState here.scope).states.items a ≡ state → entry here q.attempt a activity state ≡ Some e → IsAwaited ts depth k here.graph input q
  item_at a place None state is there entered = absurd (none-some e entered)
  item_at a place (Some activity) None is there entered = absurd (none-some e entered)
  item_at a place (Some activity) (Some state) is there entered = item_of a activity state place is there entered

  item_here : entry_here q here ≡ Some e → IsAwaited ts depth k here.graph input q
  item_here entered = go (out-ScopeState here.scope).begun entered
    where
      go : (b : Bool) → cond b (option_and_then (λ a. entry here q.attempt a (slice_get (out-Graph here.graph).activities a) (slice_get (out-ScopeState here.scope).states.items a)) (place_of here.graph q.name)) None ≡ Some e
          → IsAwaited ts depth k here.graph input q
      go false entered = absurd (none-some e entered)
      go true entered =
          option_and_then_some (λ a. entry here q.attempt a (slice_get (out-Graph here.graph).activities a) (slice_get (out-ScopeState here.scope).states.items a)) (place_of here.graph q.name) e entered
          (λ a place found. item_at a place (slice_get (out-Graph here.graph).activities a) (slice_get (out-ScopeState here.scope).states.items a) refl refl found)

-- ---- the scope of an attempt

both_parts : (o : Option Graph) (s : Option ScopeState) (x : Stand) → both o s ≡ Some x → (o ≡ Some x.graph) × (s ≡ Some x.scope)
both_parts None s x is = absurd (none-some x is)
both_parts (Some h) None x is = absurd (none-some x is)
both_parts (Some h) (Some s) x is = (ap (option_and_then (λ (y : Stand). Some y.graph)) is, ap (option_and_then (λ (y : Stand). Some y.scope)) is)

shown_nested : (w : Work) (fate : Fate) (outs : List Container) (starts : List Start) (shows : ShowsStart) (n : NestedState) → ShowsWork w fate outs starts shows (Nested n)
    → ShowsNested fate starts shows n
shown_nested (RunsProgram program) fate outs starts shows n is = absurd is
shown_nested (Block g) fate outs starts shows n is = is
shown_nested (Process t) fate outs starts shows n is = is

-- an attempt that has started, with the state of its scope
pub record HasScope (ts : List Template) (depth : ℕ) (k : Known) (g : Graph) (input : Container) (q : Part) (h : Graph) (s : ScopeState) : Type 0 where
  pub place : ℕ
  pub activity : Activity
  pub number : ℕ
  pub start : Start
  pub is : slice_get (out-Graph g).activities place ≡ Some activity
  pub of : graph_in ts activity.work ≡ Some h
  pub named : part activity.name start.attempt ≡ q
  pub started : slice_get (started_in ts depth k g input place activity) number ≡ Some start
  pub shows : ShowsWithin ts depth (at q k) h start.input s

-- a scope to which a part leads is that of an attempt that has started, and shows its view
module _ (ts : List Template) (depth : ℕ) (k : Known) (input : Container) (here : Stand) (shows : Shows ts depth k here.graph input here.scope) (q : Part) (x : Stand) where
  scope_in : (a : ℕ) (activity : Activity) (n : NestedState) (j : ℕ) → place_of here.graph q.name ≡ Some a → slice_get (out-Graph here.graph).activities a ≡ Some activity
      → graph_in ts activity.work ≡ Some x.graph → slice_get (out-ScopeState here.scope).states.items a ≡ Some (Nested n) → suc j ≡ q.attempt
      → slice_get (out-NestedState n).scopes.items j ≡ Some x.scope → HasScope ts depth k here.graph input q x.graph x.scope
  scope_in a activity n j place is of there attempt found =
      let nested = shown_nested activity.work _ _ _ _ n (shows.states a activity (Nested n) is there) in
      let less : j < length (out-NestedState n).scopes.items = slice_get_within (out-NestedState n).scopes.items j x.scope found in
      let count : length (out-NestedState n).scopes.items ≡ length (started_in ts depth k here.graph input a activity) = nested.count in
      let start = present (started_in ts depth k here.graph input a activity) j (omega arith) in
      let number = started_numbered ts k (output ts depth) here.graph input (tree_ends ts depth k here.graph input) a activity j start.0 start.1 in
      let numbered : start.0.attempt ≡ q.attempt = omega arith in
      let named : part activity.name start.0.attempt ≡ q = ap (λ m. part activity.name m) numbered ∙ ap (λ m. part m q.attempt) (found_name here.graph q.name a activity place is) in
      let shown = subst (λ (o : Option Graph). shows_attempt (ShowsWithin ts depth) k activity.name o start.0 x.scope) of (nested.scopes j start.0 x.scope start.1 found) in
      record {
        place = a;
        activity = activity;
        number = j;
        start = start.0;
        is = is;
        of = of;
        named = named;
        started = start.1;
        shows = subst (λ (p : Part). ShowsWithin ts depth (at p k) x.graph start.0.input x.scope) named shown;
      }

  scope_of_state : (a : ℕ) (activity : Activity) (state : ActivityState) (j : ℕ) → place_of here.graph q.name ≡ Some a → slice_get (out-Graph here.graph).activities a ≡ Some activity
      → graph_in ts activity.work ≡ Some x.graph → slice_get (out-ScopeState here.scope).states.items a ≡ Some state → j ≡ q.attempt
      → scope_of state j ≡ Some x.scope → HasScope ts depth k here.graph input q x.graph x.scope
  scope_of_state a activity (Program p) j place is of there attempt found = absurd (none-some x.scope found)
  scope_of_state a activity (Nested n) zero place is of there attempt found = absurd (none-some x.scope found)
  scope_of_state a activity (Nested n) (suc j) place is of there attempt found = scope_in a activity n j place is of there attempt found

  pub scope_started : into ts here q ≡ Some x → HasScope ts depth k here.graph input q x.graph x.scope
  scope_started found =
      option_and_then_some (into_place ts here q.attempt) (place_of here.graph q.name) x found (λ a place there.
      option_and_then_some (λ activity. both (graph_in ts activity.work) (inner_of here.scope a q.attempt)) (slice_get (out-Graph here.graph).activities a) x there (λ activity is both_is.
      let parts = both_parts (graph_in ts activity.work) (inner_of here.scope a q.attempt) x both_is in
      option_and_then_some (λ state. scope_of state q.attempt) (slice_get (out-ScopeState here.scope).states.items a) x.scope parts.1 (λ state stated scoped.
      scope_of_state a activity state q.attempt place is parts.0 stated refl scoped)))

-- ---- any path

pub open_awaited : (ts : List Template) (item : List Part) (depth : ℕ) (k : Known) (input : Container) (here : Stand) (e : Entry) → Shows ts depth k here.graph input here.scope
    → (phase_of (fate_of e.state) e.attempt ≡ Ended → ⊥) → entry_at ts item here ≡ Some e → Awaits ts depth k here.graph input item
open_awaited ts [] depth k input here e shows goes entered = absurd (none-some e entered)
open_awaited ts (q ∷ []) depth k input here e shows goes entered = item_here ts depth k input here shows q e goes entered
open_awaited ts (q ∷ (r ∷ qs)) zero k input here e shows goes entered =
    option_and_then_some (entry_at ts (r ∷ qs)) (into ts here q) e entered (λ x found entered'. (scope_started ts zero k input here shows q x found).shows)
open_awaited ts (q ∷ (r ∷ qs)) (suc depth) k input here e shows goes entered =
    option_and_then_some (entry_at ts (r ∷ qs)) (into ts here q) e entered (λ x found entered'.
    let scope = scope_started ts (suc depth) k input here shows q x found in
    record {
      place = scope.place;
      activity = scope.activity;
      graph = x.graph;
      number = scope.number;
      start = scope.start;
      is = scope.is;
      of = scope.of;
      named = scope.named;
      started = scope.started;
      within = open_awaited ts (r ∷ qs) depth (at q k) scope.start.input x e scope.shows goes entered';
    })
