-- The items of a scope inside which one scope changes: what happens to them is what happens to the items there.
use Rattle.std.proofs.Common.{◌≡◌, ℕ, zero, suc, List, [], ◌∷◌, ◌++◌, Option, Some, None, refl, ap, sym, ◌∙◌, subst, inl, inr}
use Rattle.std.specs.Prelude.{slice_get, slice_set, option_and_then}
use Rattle.std.proofs.lemmas.Bool.Decides.{eqb_tells}
use Rattle.std.proofs.lemmas.Option.{none-some}
use Rattle.activity_states.specs.States.{State}
use Rattle.fate_laws.specs.StartedScopes.{ScopeFact}
use Rattle.fate_laws.specs.WellFormed.{Well}
use Rattle.flow_model.specs.Scopes.{Known, at, part}
use Rattle.flow_model.specs.declared.graphs.Container.{Container}
use Rattle.flow_model.specs.declared.graphs.Graph.{Graph}
use Rattle.flow_model.specs.declared.graphs.Template.{Template}
use Rattle.flow_model.specs.declared.instances.Part.{Part}
use Rattle.flow_model.specs.declared.instances.Path.{Path}
use Rattle.item_laws.proofs.InScope.{MovesBelow}
use Rattle.item_laws.proofs.Moves.{Moves}
use Rattle.item_laws.proofs.OneState.{found_name, ChangesState, below_stays, here_stays}
use Rattle.item_laws.proofs.ScopesInside.{IsInside, started_scope, inside_started}
use Rattle.item_laws.proofs.OpenScopes.{open_inside, open_is}
use Rattle.item_laws.specs.OpenItems.{open_at, HasOpened, HasClosed}
use Rattle.navigator.proofs.Leading.{set_other}
use Rattle.navigator.proofs.Places.{set_read}
use Rattle.navigator.proofs.SameActivities.{named_of}
use Rattle.navigator.proofs.Stepping.{counted_at}
use Rattle.navigator.specs.Events.{ScopeChange, ChangesState as ChangesStateOf, ChangesAt}
use Rattle.navigator.specs.Reading.{place_of, attempt_place}
use Rattle.navigator.specs.Serving.{Served}
use Rattle.navigator.specs.Showing.{IsCounted}
use Rattle.navigator.specs.Steps.{Fields, Told, fields, with_state}
use Rattle.navigator.specs.Views.{Shows}
use Rattle.navigator.specs.declared.scopes.ActivityState.{ActivityState, Program, Nested}
use Rattle.navigator.specs.declared.scopes.NestedState.{NestedState, out-NestedState}
use Rattle.navigator.specs.declared.scopes.ScopeState.{ScopeState}
use Rattle.view_laws.specs.Coming.{IsOpenAttempt, Leads}

-- ---- one step down

number_of : (j i : ℕ) → attempt_place j ≡ Some i → j ≡ suc i
number_of zero i is = absurd (none-some i is)
number_of (suc j) i is = let same : j ≡ i = cc in ap suc same

module _ (ts : List Template) (g : Graph) (s : ScopeState) (x : Part) (h : Graph) (inner : ScopeState) (inside : IsInside ts g s x h inner) where
  -- what is open inside is open there
  pub enters : (r : Part) (rs : List Part) → open_at ts g s (x ∷ (r ∷ rs)) ≡ open_at ts h inner (r ∷ rs)
  enters r rs = open_is ts g s (x ∷ (r ∷ rs)) ∙ rw (inside.named, inside.is, inside.runs, inside.stated, inside.counted, inside.found) refl

  pub enters_last : (p : List Part) (q : Part) → open_at ts g s (x ∷ (p ++ q ∷ [])) ≡ open_at ts h inner (p ++ q ∷ [])
  enters_last [] q = enters q []
  enters_last (r ∷ rs) q = enters r (rs ++ q ∷ [])

module _ (ts : List Template) (g : Graph) (s s' : ScopeState) (x : Part) (h : Graph) (inner next : ScopeState) (inside : IsInside ts g s x h inner) (n' : NestedState)
    (scopes : (out-NestedState n').scopes.items ≡ slice_set (out-NestedState inside.nested).scopes.items inside.number next) (around : fields s' ≡ with_state inside.place (Nested n') (fields s)) where
  changes : ChangesState inside.place (Nested inside.nested) (Nested n') (fields s) (fields s')
  changes = record { begun = ap (λ (u : Fields). u.begun) around; was = inside.stated; states = ap (λ (u : Fields). u.states) around }

  found_now : slice_get (out-NestedState n').scopes.items inside.number ≡ Some next
  found_now = ap (λ ss. slice_get ss inside.number) scopes ∙ set_read (out-NestedState inside.nested).scopes.items inside.number inner next inside.found

  pub inside_now : IsInside ts g s' x h next
  inside_now = record {
    place = inside.place;
    number = inside.number;
    activity = inside.activity;
    nested = n';
    named = inside.named;
    is = inside.is;
    runs = inside.runs;
    counted = inside.counted;
    stated = ap (λ (u : Fields). slice_get u.states inside.place) around ∙ set_read (fields s).states inside.place (Nested inside.nested) (Nested n') inside.stated;
    found = found_now;
  }

  -- a part that leads to the scope is this one
  same_part : (q : Part) → place_of g q.name ≡ Some inside.place → attempt_place q.attempt ≡ Some inside.number → q ≡ x
  same_part q place counted =
      let names : q.name ≡ x.name = sym (found_name g q.name inside.place inside.activity place inside.is) ∙ found_name g x.name inside.place inside.activity inside.named inside.is in
      let numbers : q.attempt ≡ x.attempt = number_of q.attempt inside.number counted ∙ sym (number_of x.attempt inside.number inside.counted) in
      ap (λ n. part n q.attempt) names ∙ ap (part x.name) numbers

  -- an item stays where it stays inside
  pub stays_inside : (item : List Part) → ((rest : List Part) → item ≡ x ∷ rest → open_at ts h next rest ≡ open_at ts h inner rest) → open_at ts g s' item ≡ open_at ts g s item
  stays_inside [] same = refl
  stays_inside (q ∷ []) same =
      open_is ts g s' (q ∷ []) ∙ here_stays ts g inside.place inside.activity inside.is (Nested inside.nested) (Nested n') (fields s) (fields s') changes (λ j. refl) q ∙ sym (open_is ts g s (q ∷ []))
  stays_inside (q ∷ (r ∷ rs)) same =
      open_is ts g s' (q ∷ (r ∷ rs))
      ∙ below_stays ts g inside.place inside.activity inside.is (Nested inside.nested) (Nested n') (fields s) (fields s') changes q (r ∷ rs) (λ place. rw inside.runs (by place (attempt_place q.attempt) refl))
      ∙ sym (open_is ts g s (q ∷ (r ∷ rs)))
    where
      by : place_of g q.name ≡ Some inside.place → (o : Option ℕ) → attempt_place q.attempt ≡ o
          → open_inside ts (Some h) (option_and_then (slice_get (out-NestedState n').scopes.items) o) (r ∷ rs) ≡ open_inside ts (Some h) (option_and_then (slice_get (out-NestedState inside.nested).scopes.items) o) (r ∷ rs)
      by place None counted = refl
      by place (Some j) counted = elim (eqb_tells j inside.number) [
        | inl one ↦
            let this : q ≡ x = same_part q place (counted ∙ ap Some one.1) in
            let now : slice_get (out-NestedState n').scopes.items j ≡ Some next = ap (slice_get (out-NestedState n').scopes.items) one.1 ∙ found_now in
            let was : slice_get (out-NestedState inside.nested).scopes.items j ≡ Some inner = ap (slice_get (out-NestedState inside.nested).scopes.items) one.1 ∙ inside.found in
            rw (now, was) (same (r ∷ rs) (ap (λ u. u ∷ (r ∷ rs)) this))
        | inr other ↦
            let alike : slice_get (out-NestedState n').scopes.items j ≡ slice_get (out-NestedState inside.nested).scopes.items j
            = ap (λ ss. slice_get ss j) scopes ∙ set_other (out-NestedState inside.nested).scopes.items inside.number j next other.1 in
            ap (λ o. open_inside ts (Some h) o (r ∷ rs)) alike
      ]

  pub inside_moves : (clock : ℕ) (path : List Part) (news : List Part) (closing : Option Part) → Moves clock path news closing (open_at ts h inner) (open_at ts h next)
      → Moves clock (x ∷ path) news closing (open_at ts g s) (open_at ts g s')
  inside_moves clock path news closing moves = record {
    once = moves.once;
    opened = λ n q at. subst (λ (o : Option State × Option State). HasOpened clock o.0 o.1) (sym (both q)) (moves.opened n q at);
    closed = λ q at. subst (λ (o : Option State × Option State). HasClosed o.0 o.1) (sym (both q)) (moves.closed q at);
    others = λ item new old. stays_inside item (λ rest is. moves.others rest (λ n q at same. new n q at (is ∙ ap (λ us. x ∷ us) same)) (λ q at same. old q at (is ∙ ap (λ us. x ∷ us) same)));
  }
    where
      both : (q : Part) → ◌≡◌ {A = Option State × Option State} (open_at ts g s (x ∷ (path ++ q ∷ [])), open_at ts g s' (x ∷ (path ++ q ∷ []))) (open_at ts h inner (path ++ q ∷ []), open_at ts h next (path ++ q ∷ []))
      both q =
          let was = enters_last ts g s x h inner inside path q in
          let now = enters_last ts g s' x h next inside_now path q in
          cc

-- ---- along a path

-- the scope of an open attempt is there, and shows its view
pub record ShowsInside (ts : List Template) (depth : ℕ) (k : Known) (g : Graph) (s : ScopeState) (q : Part) (h : Graph) (input : Container) : Type 0 where
  pub inner : ScopeState
  pub inside : IsInside ts g s q h inner
  pub shows : Shows ts depth (at q k) h input inner

pub open_inner : (ts : List Template) (depth : ℕ) (k : Known) (g : Graph) (input : Container) (s : ScopeState) (q : Part) (within : Graph → Container → Type 0) → Well ts (suc depth) g
    → (attempt : IsOpenAttempt ts (suc depth) k g input q within) → Shows ts (suc depth) k g input s → ShowsInside ts depth k g s q attempt.graph attempt.start.input
open_inner ts depth k g input s q within well attempt shows =
    let one = started_scope ts (suc depth) k g input s q attempt.place attempt.activity attempt.number attempt.start attempt.graph (named_of ts (suc depth) g well) shows attempt.is attempt.of attempt.named attempt.started in
    record { inner = one.inner; inside = inside_started ts (suc depth) k g s q attempt.place attempt.activity attempt.number attempt.start attempt.graph attempt.is attempt.of one; shows = one.shows }

module _ (ts : List Template) (path : Path) (clock : ℕ) (closing : Option Part) (before after : Told) (change : ScopeChange) (fact : ScopeFact)
    (here : (depth : ℕ) (k : Known) (g : Graph) (input : Container) (s s' : ScopeState) → Well ts depth g → Served ts depth g → IsCounted k → fact depth k g input → Shows ts depth k g input s
    → change g s s' → MovesBelow ts g path clock [] closing s s' before after) where
  -- what happens to the items of the scope at the end of a path is what happens to all
  pub along_moves : (p : List Part) (depth : ℕ) (k : Known) (g : Graph) (input : Container) (s s' : ScopeState) → Well ts depth g → Served ts depth g → IsCounted k
      → Leads fact ts depth k g input p → Shows ts depth k g input s → ChangesAt ts change p g s s' → MovesBelow ts g path clock p closing s s' before after
  along_moves [] depth k g input s s' well served counted leads shows changed = here depth k g input s s' well served counted leads shows changed
  along_moves (q ∷ p) zero k g input s s' well served counted leads shows changed = absurd leads
  along_moves (q ∷ p) (suc depth) k g input s s' well served counted leads shows changed =
      let one = open_inner ts depth k g input s q (λ h i. Leads fact ts depth (at q k) h i p) well leads shows in
      let inside = one.inside in
      let now = changed inside.place inside.number inside.activity leads.graph inside.nested one.inner inside.named inside.is inside.runs inside.counted inside.stated inside.found in
      by one.inner inside now.state now.inside now.around
      (λ t changes. along_moves p depth (at q k) leads.graph leads.start.input one.inner t (well.inside leads.place leads.activity leads.is leads.graph leads.of)
      (served.inside leads.place leads.activity leads.graph leads.is leads.of) (counted_at q k counted) leads.within one.shows changes)
    where
      by : (inner : ScopeState) (inside : IsInside ts g s q leads.graph inner)
          → (state : ActivityState) → ChangesStateOf (ChangesAt ts change p leads.graph) inside.number inner inside.nested state → fields s' ≡ with_state inside.place state (fields s)
          → ((t : ScopeState) → ChangesAt ts change p leads.graph inner t → MovesBelow ts leads.graph path clock p closing inner t before after)
          → MovesBelow ts g path clock (q ∷ p) closing s s' before after
      by inner inside (Program w) wrong around rest = absurd wrong
      by inner inside (Nested n') is around below =
          let rest = below is.next is.changes in
          record {
            news = rest.news;
            moves = inside_moves ts g s s' q leads.graph inner is.next inside n' is.scopes around clock p rest.news closing rest.moves;
            ready = rest.ready;
          }
