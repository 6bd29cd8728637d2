-- What happens to the items of a root where the hold of one that is open is changed.
use Rattle.std.proofs.Common.{◌≡◌, ℕ, ◌+◌, Bool, true, false, List, [], ◌∷◌, ◌++◌, length, Option, Some, None, cond, refl, ap, sym, ◌∙◌, subst}
use Rattle.std.specs.Prelude.{slice_get, option_and_then, bytes_eq}
use Rattle.std.proofs.lemmas.Option.{none-some, option_and_then_some}
use Rattle.std.proofs.lemmas.Slice.Eq.{bytes_eq-Decides}
use Rattle.activity_states.specs.States.{State, waiting, dead, opened, finished, fate_of, next_number}
use Rattle.fate_laws.proofs.Items.{eqb_one}
use Rattle.flow_model.specs.ScopeContainers.{graph_in}
use Rattle.flow_model.specs.Scopes.{part}
use Rattle.flow_model.specs.declared.graphs.Activity.{Activity}
use Rattle.flow_model.specs.declared.graphs.Graph.{Graph, out-Graph}
use Rattle.flow_model.specs.declared.graphs.Template.{Template}
use Rattle.flow_model.specs.declared.instances.Hold.TheVariants as holds
use Rattle.flow_model.specs.declared.instances.Part.{Part}
use Rattle.item_laws.proofs.Along.{enters, inside_now, stays_inside}
use Rattle.item_laws.proofs.OneState.{found_name, ChangesState, other_stays, below_stays, part_was, part_is}
use Rattle.item_laws.proofs.OpenScopes.{open_attempt, opens_next, open_item, item_of, open_here, open_inside, scope_in, open_is}
use Rattle.item_laws.proofs.ScopesInside.{IsInside}
use Rattle.item_laws.specs.Laws.{ItemIsHeld}
use Rattle.item_laws.specs.OpenItems.{is_open_phase, open_at}
use Rattle.navigator.specs.Events.{ChangesState as ChangesStateOf, ChangesAt}
use Rattle.navigator.specs.Holding.{held_by, held_state, held_at, SetsHold, HoldsChanged}
use Rattle.navigator.specs.Items.{phase_of}
use Rattle.navigator.specs.Reading.{place_of, attempt_place, scope_of}
use Rattle.navigator.specs.Steps.{Fields, fields, with_state, changed_at}
use Rattle.navigator.specs.declared.instance.HoldChange.{HoldChange}
use Rattle.navigator.specs.declared.instance.HoldChange.TheVariants.{Person, Agent, Nobody}
use Rattle.navigator.specs.declared.scopes.ActivityState.{ActivityState, Program, Nested}
use Rattle.navigator.specs.declared.scopes.NestedState.{NestedState, out-NestedState}
use Rattle.navigator.specs.declared.scopes.ScopeState.{ScopeState}

-- a path that isn't empty is its front and its last part
pub front_and_last : (q : Part) (qs : List Part) → (front : List Part) × (last : Part) × (q ∷ qs ≡ front ++ last ∷ [])
front_and_last q [] = ([], q, refl)
front_and_last q (r ∷ rs) = let rest = front_and_last r rs in (q ∷ rest.0, rest.1, ap (λ (ps : List Part). q ∷ ps) rest.2)

-- ---- one activity

abbrev is_open : State → ℕ → Bool
is_open p j = is_open_phase (phase_of (fate_of p) j)

-- another hold opens and closes nothing
still_open : (change : HoldChange) (p : State) (j : ℕ) → is_open (held_by change p) j ≡ is_open p j
still_open (Person who) waiting j = refl
still_open (Person who) dead j = refl
still_open (Person who) (opened cs hold takes since) j = opens_next (holds.Person who) (length cs + 1) j ∙ sym (opens_next hold (length cs + 1) j)
still_open (Person who) (finished cs) j = refl
still_open Agent waiting j = refl
still_open Agent dead j = refl
still_open Agent (opened cs hold takes since) j = opens_next (holds.Agent (next_number takes)) (length cs + 1) j ∙ sym (opens_next hold (length cs + 1) j)
still_open Agent (finished cs) j = refl
still_open Nobody waiting j = refl
still_open Nobody dead j = refl
still_open Nobody (opened cs hold takes since) j = opens_next holds.Nobody (length cs + 1) j ∙ sym (opens_next hold (length cs + 1) j)
still_open Nobody (finished cs) j = refl

-- one attempt of an activity is open at most
one_open : (p : State) (i j : ℕ) → is_open p i ≡ true → is_open p j ≡ true → i ≡ j
one_open waiting i j is at = let n : ⊥ = cc in absurd n
one_open dead i j is at = let n : ⊥ = cc in absurd n
one_open (finished cs) i j is at = let n : ⊥ = cc in absurd n
one_open (opened cs hold takes since) i j is at =
    sym (eqb_one (length cs + 1) i (sym (opens_next hold (length cs + 1) i) ∙ is)) ∙ eqb_one (length cs + 1) j (sym (opens_next hold (length cs + 1) j) ∙ at)

-- an item that is open has a program activity
record IsOpenAt (x : ActivityState) (j : ℕ) (p : State) : Type 0 where
  is : x ≡ Program p
  opens : is_open p j ≡ true

open_state : (x : ActivityState) (j : ℕ) (p : State) → open_item x j ≡ Some p → IsOpenAt x j p
open_state (Nested n) j p is = absurd (none-some p is)
open_state (Program r) j p is = by (is_open r j) refl is
  where
    by : (b : Bool) → is_open r j ≡ b → cond b (Some r) None ≡ Some p → IsOpenAt (Program r) j p
    by false shut is = absurd (none-some p is)
    by true opens is = let same : r ≡ p = cc in record { is = ap Program same; opens = ap (λ z. is_open z j) (sym same) ∙ opens }

-- ---- the scope of the item

module _ (ts : List Template) (change : HoldChange) (take : ℕ) where
  -- the item is held so, and every other one stays as it was
  record IsHeldHere (item : List Part) (g : Graph) (s s' : ScopeState) (p : State) : Type 0 where
    held : open_at ts g s' item ≡ Some (held_by change p)
    others : (other : List Part) → (other ≡ item → ⊥) → open_at ts g s' other ≡ open_at ts g s other

  module _ (g : Graph) (s s' : ScopeState) (q : Part) (p : State) (sets : SetsHold q.name change take g s s') where
    module _ (a : ℕ) (activity : Activity) (place : place_of g q.name ≡ Some a) (is : slice_get (out-Graph g).activities a ≡ Some activity)
        (there : slice_get (fields s).states a ≡ Some (Program p)) (opens : is_open p q.attempt ≡ true) (begun : (fields s).begun ≡ true) where
      new : fields s' ≡ with_state a (Program (held_by change p)) (fields s)
      new = sets.scope ∙ ap (λ o. held_at change o (fields s)) place ∙ ap (λ o. changed_at (held_state change) a o (fields s)) there

      changes : ChangesState a (Program p) (Program (held_by change p)) (fields s) (fields s')
      changes = record { begun = ap (λ (u : Fields). u.begun) new; was = there; states = ap (λ (u : Fields). u.states) new }

      other_here : (r : Part) → (r ≡ q → ⊥) → open_here g r (fields s') ≡ open_here g r (fields s)
      other_here r apart = by (bytes_eq r.name activity.name) refl
        where
          by : (b : Bool) → bytes_eq r.name activity.name ≡ b → open_here g r (fields s') ≡ open_here g r (fields s)
          by false differ =
              other_stays ts g a activity is (Program p) (Program (held_by change p)) (fields s) (fields s') changes r
              (λ same. let n : true ≡ false = sym ((bytes_eq-Decides r.name activity.name).1 same) ∙ differ in let m : ⊥ = cc in absurd m)
          by true same =
              let names : r.name ≡ q.name = (bytes_eq-Decides r.name activity.name).0 same ∙ found_name g q.name a activity place is in
              let place' : place_of g r.name ≡ Some a = ap (place_of g) names ∙ place in
              part_is ts g a activity is (Program p) (Program (held_by change p)) (fields s) (fields s') changes begun r place'
              ∙ shut (is_open p r.attempt) refl names
              ∙ sym (part_was ts g a activity is (Program p) (Program (held_by change p)) (fields s) (fields s') changes begun r place')
            where
              shut : (b : Bool) → is_open p r.attempt ≡ b → r.name ≡ q.name → open_attempt (held_by change p) r.attempt ≡ open_attempt p r.attempt
              shut true at names =
                  let same : r.attempt ≡ q.attempt = one_open p r.attempt q.attempt at opens in
                  absurd (apart (ap (λ n. part n r.attempt) names ∙ ap (part q.name) same))
              shut false at names =
                  ap (λ b. cond b (Some (held_by change p)) None) (still_open change p r.attempt ∙ at) ∙ sym (ap (λ b. cond b (Some p) None) at)

      held_of : IsHeldHere (q ∷ []) g s s' p
      held_of = record {
        held = open_is ts g s' (q ∷ [])
            ∙ part_is ts g a activity is (Program p) (Program (held_by change p)) (fields s) (fields s') changes begun q place
            ∙ ap (λ b. cond b (Some (held_by change p)) None) (still_open change p q.attempt ∙ opens);
        others = stays;
      }
        where
          stays : (other : List Part) → (other ≡ q ∷ [] → ⊥) → open_at ts g s' other ≡ open_at ts g s other
          stays [] apart = refl
          stays (r ∷ []) apart = open_is ts g s' (r ∷ []) ∙ other_here r (λ same. apart (ap (λ z. z ∷ []) same)) ∙ sym (open_is ts g s (r ∷ []))
          stays (r ∷ (r' ∷ rs)) apart =
              open_is ts g s' (r ∷ (r' ∷ rs))
              ∙ below_stays ts g a activity is (Program p) (Program (held_by change p)) (fields s) (fields s') changes r (r' ∷ rs) (λ place. refl)
              ∙ sym (open_is ts g s (r ∷ (r' ∷ rs)))

    -- the item is there
    held_here : open_at ts g s (q ∷ []) ≡ Some p → IsHeldHere (q ∷ []) g s s' p
    held_here is = by (fields s).begun refl (sym (open_is ts g s (q ∷ [])) ∙ is)
      where
        at : (a : ℕ) → place_of g q.name ≡ Some a → (fields s).begun ≡ true → (activity : Option Activity) → slice_get (out-Graph g).activities a ≡ activity → (x : Option ActivityState)
            → slice_get (fields s).states a ≡ x → item_of activity x q.attempt ≡ Some p → IsHeldHere (q ∷ []) g s s' p
        at a place begun None is x there found = absurd (none-some p found)
        at a place begun (Some activity) is None there found = absurd (none-some p found)
        at a place begun (Some activity) is (Some x) there found =
            let one = open_state x q.attempt p found in
            held_of a activity place is (there ∙ ap Some one.is) one.opens begun

        by : (b : Bool) → (fields s).begun ≡ b
            → cond b (option_and_then (λ a. item_of (slice_get (out-Graph g).activities a) (slice_get (fields s).states a) q.attempt) (place_of g q.name)) None ≡ Some p → IsHeldHere (q ∷ []) g s s' p
        by false unbegun found = absurd (none-some p found)
        by true begun found =
            option_and_then_some (λ a. item_of (slice_get (out-Graph g).activities a) (slice_get (fields s).states a) q.attempt) (place_of g q.name) p found
            (λ a place item. at a place begun (slice_get (out-Graph g).activities a) refl (slice_get (fields s).states a) refl item)

  -- ---- the scopes around it

  -- an item that is open further in is open in the scope of an attempt
  record IsEntered (g : Graph) (s : ScopeState) (x : Part) (rest : List Part) (p : State) : Type 0 where
    graph : Graph
    inner : ScopeState
    inside : IsInside ts g s x graph inner
    opens : open_at ts graph inner rest ≡ Some p

  module _ (g : Graph) (s : ScopeState) (x r : Part) (rs : List Part) (p : State) where
    entered_at : (a : ℕ) (activity : Activity) (n : NestedState) (h : Graph) (t : ScopeState) → place_of g x.name ≡ Some a → slice_get (out-Graph g).activities a ≡ Some activity
        → graph_in ts activity.work ≡ Some h → slice_get (fields s).states a ≡ Some (Nested n) → scope_of (Nested n) x.attempt ≡ Some t → open_at ts h t (r ∷ rs) ≡ Some p → IsEntered g s x (r ∷ rs) p
    entered_at a activity n h t place is runs stated scoped opens =
        option_and_then_some (slice_get (out-NestedState n).scopes.items) (attempt_place x.attempt) t scoped (λ i counted found.
        record {
          graph = h;
          inner = t;
          inside = record { place = a; number = i; activity = activity; nested = n; named = place; is = is; runs = runs; counted = counted; stated = stated; found = found };
          opens = opens;
        })

    entered_in : (a : ℕ) (activity : Activity) → place_of g x.name ≡ Some a → slice_get (out-Graph g).activities a ≡ Some activity
        → (h : Option Graph) → graph_in ts activity.work ≡ h → (t : Option ScopeState) → scope_in (fields s) a x.attempt ≡ t → open_inside ts h t (r ∷ rs) ≡ Some p → IsEntered g s x (r ∷ rs) p
    entered_in a activity place is None runs t scoped opens = absurd (none-some p opens)
    entered_in a activity place is (Some h) runs None scoped opens = absurd (none-some p opens)
    entered_in a activity place is (Some h) runs (Some t) scoped opens =
        option_and_then_some (λ state. scope_of state x.attempt) (slice_get (fields s).states a) t scoped (λ state stated found. by state stated found)
      where
        by : (state : ActivityState) → slice_get (fields s).states a ≡ Some state → scope_of state x.attempt ≡ Some t → IsEntered g s x (r ∷ rs) p
        by (Program w) stated found = absurd (none-some t found)
        by (Nested n) stated found = entered_at a activity n h t place is runs stated found opens

    entered : open_at ts g s (x ∷ (r ∷ rs)) ≡ Some p → IsEntered g s x (r ∷ rs) p
    entered opens =
        option_and_then_some (λ a. option_and_then (λ z. open_inside ts (graph_in ts z.work) (scope_in (fields s) a x.attempt) (r ∷ rs)) (slice_get (out-Graph g).activities a)) (place_of g x.name) p
        (sym (open_is ts g s (x ∷ (r ∷ rs))) ∙ opens) (λ a place there.
        option_and_then_some (λ z. open_inside ts (graph_in ts z.work) (scope_in (fields s) a x.attempt) (r ∷ rs)) (slice_get (out-Graph g).activities a) p there (λ activity is found.
        entered_in a activity place is (graph_in ts activity.work) refl (scope_in (fields s) a x.attempt) refl found))

  -- one step down
  step_held : (x r : Part) (rs qs : List Part) (c : Graph → ScopeState → ScopeState → Type 0) (g : Graph) (s s' : ScopeState) (p : State) → open_at ts g s (x ∷ (r ∷ rs)) ≡ Some p
      → ChangesAt ts c (x ∷ qs) g s s' → ((h : Graph) (t t' : ScopeState) → open_at ts h t (r ∷ rs) ≡ Some p → ChangesAt ts c qs h t t' → IsHeldHere (r ∷ rs) h t t' p)
      → IsHeldHere (x ∷ (r ∷ rs)) g s s' p
  step_held x r rs qs c g s s' p opens changed below =
      let one = entered g s x r rs p opens in
      let inside = one.inside in
      let now = changed inside.place inside.number inside.activity one.graph inside.nested one.inner inside.named inside.is inside.runs inside.counted inside.stated inside.found in
      by one.graph one.inner inside one.opens now.state now.inside now.around
    where
      by : (h : Graph) (inner : ScopeState) (inside : IsInside ts g s x h inner) → open_at ts h inner (r ∷ rs) ≡ Some p → (state : ActivityState)
          → ChangesStateOf (ChangesAt ts c qs h) inside.number inner inside.nested state → fields s' ≡ with_state inside.place state (fields s) → IsHeldHere (x ∷ (r ∷ rs)) g s s' p
      by h inner inside there (Program w) wrong around = absurd wrong
      by h inner inside there (Nested n') is around =
          let rest = below h inner is.next there is.changes in
          record {
            held = enters ts g s' x h is.next (inside_now ts g s s' x h inner is.next inside n' is.scopes around) r rs ∙ rest.held;
            others = λ other apart.
                stays_inside ts g s s' x h inner is.next inside n' is.scopes around other (λ item same. rest.others item (λ this. apart (same ∙ ap (λ us. x ∷ us) this)));
          }

  held_along : (parts : List Part) (q : Part) (g : Graph) (s s' : ScopeState) (p : State) → open_at ts g s (parts ++ q ∷ []) ≡ Some p → ChangesAt ts (SetsHold q.name change take) parts g s s'
      → IsHeldHere (parts ++ q ∷ []) g s s' p
  held_along [] q g s s' p opens changed = held_here g s s' q p changed opens
  held_along (x ∷ []) q g s s' p opens changed = step_held x q [] [] (SetsHold q.name change take) g s s' p opens changed (λ h t t' there inside. held_along [] q h t t' p there inside)
  held_along (x ∷ (y ∷ ys)) q g s s' p opens changed =
      step_held x y (ys ++ q ∷ []) (y ∷ ys) (SetsHold q.name change take) g s s' p opens changed (λ h t t' there inside. held_along (y ∷ ys) q h t t' p there inside)

  pub item_held : (item : List Part) (g : Graph) (s s' : ScopeState) (p : State) → open_at ts g s item ≡ Some p → HoldsChanged ts item change g s s' take
      → ItemIsHeld item change p (open_at ts g s) (open_at ts g s')
  item_held [] g s s' p opens changed = absurd (none-some p opens)
  item_held (q ∷ qs) g s s' p opens changed =
      let split = front_and_last q qs in
      let along = held_along split.0 split.1 g s s' p (ap (open_at ts g s) (sym split.2) ∙ opens) (changed split.0 split.1 split.2) in
      let held : IsHeldHere (q ∷ qs) g s s' p = subst (λ ps. IsHeldHere ps g s s' p) (sym split.2) along in
      record { held = held.held; others = held.others }
