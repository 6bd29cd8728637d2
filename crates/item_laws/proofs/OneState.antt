-- What happens to the items of a scope where the state of one activity changes.
use Rattle.std.proofs.Common.{◌≡◌, ℕ, Bool, true, false, List, [], ◌∷◌, Option, Some, None, cond, refl, ap, sym, ◌∙◌, subst, inl, inr}
use Rattle.std.specs.Prelude.{◌≢◌, ◌⊎◌, slice_get, slice_set, option_and_then, bytes_eq}
use Rattle.std.proofs.lemmas.Bool.Decides.{eqb_tells}
use Rattle.std.proofs.lemmas.List.Quantifiers.{position-Some}
use Rattle.std.proofs.lemmas.Option.{get_or_from_slice_get}
use Rattle.std.proofs.lemmas.Slice.Eq.{bytes_eq-Decides}
use Rattle.activity_states.specs.States.{State}
use Rattle.flow_model.specs.ScopeContainers.{graph_in}
use Rattle.flow_model.specs.Scopes.{part}
use Rattle.flow_model.specs.declared.graphs.Activity.{Activity}
use Rattle.flow_model.specs.declared.graphs.Graph.{Graph, out-Graph}
use Rattle.flow_model.specs.declared.graphs.Template.{Template}
use Rattle.flow_model.specs.declared.instances.Part.{Part}
use Rattle.flow_model.specs.declared.names.Name.{Name}
use Rattle.item_laws.proofs.Moves.{Moves}
use Rattle.item_laws.proofs.OpenScopes.{open_item, item_of, open_here, open_inside, scope_in, open_below, open_in}
use Rattle.item_laws.specs.OpenItems.{HasOpened, HasClosed}
use Rattle.navigator.proofs.Leading.{set_other}
use Rattle.navigator.proofs.Places.{set_read}
use Rattle.navigator.proofs.SameActivities.{Named, place_found}
use Rattle.navigator.specs.Reading.{place_of, scope_of}
use Rattle.navigator.specs.Steps.{Fields}
use Rattle.navigator.specs.declared.scopes.ActivityState.{ActivityState}

-- the activity to which a name leads has this name
pub found_name : (g : Graph) (name : Name) (a : ℕ) (activity : Activity) → place_of g name ≡ Some a → slice_get (out-Graph g).activities a ≡ Some activity → activity.name ≡ name
found_name g name a activity found is =
    let passes = (position-Some (λ (x : Activity). bytes_eq x.name name) (out-Graph g).activities a activity found).1 in
    let there = get_or_from_slice_get (out-Graph g).activities a activity activity is in
    (bytes_eq-Decides activity.name name).0 (ap (λ (x : Activity). bytes_eq x.name name) (sym there) ∙ passes)

-- the state of the activity at a place becomes another one, and the other activities stay
pub record ChangesState (a : ℕ) (x y : ActivityState) (f f' : Fields) : Type 0 where
  pub begun : f'.begun ≡ f.begun
  pub was : slice_get f.states a ≡ Some x
  pub states : f'.states ≡ slice_set f.states a y

module _ (ts : List Template) (g : Graph) (a : ℕ) (activity : Activity) (is : slice_get (out-Graph g).activities a ≡ Some activity) (x y : ActivityState) (f f' : Fields) (changes : ChangesState a x y f f') where
  pub state_now : slice_get f'.states a ≡ Some y
  state_now = ap (λ ss. slice_get ss a) changes.states ∙ set_read f.states a x y changes.was

  pub state_elsewhere : (b : ℕ) → b ≢ a → slice_get f'.states b ≡ slice_get f.states b
  state_elsewhere b apart = ap (λ ss. slice_get ss b) changes.states ∙ set_other f.states a b y apart

  abbrev below_at : Part → List Part → Fields → ℕ → Option State
  below_at q item u b = option_and_then (λ z. open_inside ts (graph_in ts z.work) (scope_in u b q.attempt) item) (slice_get (out-Graph g).activities b)

  abbrev item_at : Part → Fields → ℕ → Option State
  item_at q u b = item_of (slice_get (out-Graph g).activities b) (slice_get u.states b) q.attempt

  -- an item below stays where the scope stays to which its part leads
  pub below_stays : (q : Part) (item : List Part)
      → (place_of g q.name ≡ Some a → open_inside ts (graph_in ts activity.work) (scope_of y q.attempt) item ≡ open_inside ts (graph_in ts activity.work) (scope_of x q.attempt) item)
      → open_below ts g q item f' ≡ open_below ts g q item f
  below_stays q item same = by (place_of g q.name) refl
    where
      at : (b : ℕ) → place_of g q.name ≡ Some b → (b ≡ a) ⊎ (b ≢ a) → below_at q item f' b ≡ below_at q item f b
      at b place (inr apart) = ap (λ o. option_and_then (λ z. open_inside ts (graph_in ts z.work) (option_and_then (λ (state : ActivityState). scope_of state q.attempt) o) item) (slice_get (out-Graph g).activities b)) (state_elsewhere b apart)
      at b place (inl one) =
          let there : slice_get (out-Graph g).activities b ≡ Some activity = ap (slice_get (out-Graph g).activities) one ∙ is in
          let now : slice_get f'.states b ≡ Some y = ap (slice_get f'.states) one ∙ state_now in
          let was : slice_get f.states b ≡ Some x = ap (slice_get f.states) one ∙ changes.was in
          rw (there, now, was) (same (place ∙ ap Some one))

      by : (o : Option ℕ) → place_of g q.name ≡ o → option_and_then (below_at q item f') o ≡ option_and_then (below_at q item f) o
      by None place = refl
      by (Some b) place = elim (eqb_tells b a) [ inl one ↦ at b place (inl one.1) | inr apart ↦ at b place (inr apart.1) ]

  -- the item of another activity stays
  pub other_stays : (q : Part) → q.name ≢ activity.name → open_here g q f' ≡ open_here g q f
  other_stays q apart = ap (λ b. cond b (option_and_then (item_at q f') (place_of g q.name)) None) changes.begun ∙ ap (λ o. cond f.begun o None) (by (place_of g q.name) refl)
    where
      by : (o : Option ℕ) → place_of g q.name ≡ o → option_and_then (item_at q f') o ≡ option_and_then (item_at q f) o
      by None place = refl
      by (Some b) place = elim (eqb_tells b a) [
        | inl one ↦ absurd (apart (sym (found_name g q.name a activity (place ∙ ap Some one.1) is)))
        | inr other ↦ ap (λ o. item_of (slice_get (out-Graph g).activities b) o q.attempt) (state_elsewhere b other.1)
      ]

  -- so does each item where none moves
  pub here_stays : ((j : ℕ) → open_item y j ≡ open_item x j) → (q : Part) → open_here g q f' ≡ open_here g q f
  here_stays same q = ap (λ b. cond b (option_and_then (item_at q f') (place_of g q.name)) None) changes.begun ∙ ap (λ o. cond f.begun o None) (by (place_of g q.name))
    where
      alike : (z : Option Activity) → item_of z (Some y) q.attempt ≡ item_of z (Some x) q.attempt
      alike None = refl
      alike (Some z) = same q.attempt

      by : (o : Option ℕ) → option_and_then (item_at q f') o ≡ option_and_then (item_at q f) o
      by None = refl
      by (Some b) = elim (eqb_tells b a) [
        | inl one ↦
            let now : slice_get f'.states b ≡ Some y = ap (slice_get f'.states) one.1 ∙ state_now in
            let was : slice_get f.states b ≡ Some x = ap (slice_get f.states) one.1 ∙ changes.was in
            rw (now, was) (alike (slice_get (out-Graph g).activities b))
        | inr other ↦ ap (λ o. item_of (slice_get (out-Graph g).activities b) o q.attempt) (state_elsewhere b other.1)
      ]

  -- the item of a part that leads to the activity, before and after
  pub part_was : f.begun ≡ true → (q : Part) → place_of g q.name ≡ Some a → open_here g q f ≡ open_item x q.attempt
  part_was begun q place = rw (begun, place, is, changes.was) refl

  pub part_is : f.begun ≡ true → (q : Part) → place_of g q.name ≡ Some a → open_here g q f' ≡ open_item y q.attempt
  part_is begun q place = let begun' = changes.begun ∙ begun in rw (begun', place, is, state_now) refl

  module _ (named : Named g) (begun : f.begun ≡ true) where
    -- an item of the activity, before and after
    pub item_was : (j : ℕ) → open_here g (part activity.name j) f ≡ open_item x j
    item_was j = part_was begun (part activity.name j) (place_found g a activity named is)

    pub item_is : (j : ℕ) → open_here g (part activity.name j) f' ≡ open_item y j
    item_is j = part_is begun (part activity.name j) (place_found g a activity named is)

    -- the scope of each attempt stays, as far as items are open below it
    abbrev pub ScopesStay : Type 0
    ScopesStay = (j : ℕ) (item : List Part) → open_inside ts (graph_in ts activity.work) (scope_of y j) item ≡ open_inside ts (graph_in ts activity.work) (scope_of x j) item

    -- what happens to the items of the activity is what happens to all
    pub one_moves : (clock : ℕ) (news : List Part) (closing : Option Part) → ScopesStay → ((n m : ℕ) (q : Part) → slice_get news n ≡ Some q → slice_get news m ≡ Some q → n ≡ m)
        → ((n : ℕ) (q : Part) → slice_get news n ≡ Some q → (q.name ≡ activity.name) × HasOpened clock (open_item x q.attempt) (open_item y q.attempt))
        → ((q : Part) → closing ≡ Some q → (q.name ≡ activity.name) × HasClosed (open_item x q.attempt) (open_item y q.attempt))
        → ((j : ℕ) → ((n : ℕ) → slice_get news n ≡ Some (part activity.name j) → ⊥) → (closing ≡ Some (part activity.name j) → ⊥) → open_item y j ≡ open_item x j)
        → Moves clock [] news closing (open_in ts g f) (open_in ts g f')
    one_moves clock news closing scopes once opened closed others = record {
      once = once;
      opened = λ n q at. let one = opened n q at in subst (λ (o : Option State × Option State). HasOpened clock o.0 o.1) (sym (pair q one.0)) one.1;
      closed = λ q at. let one = closed q at in subst (λ (o : Option State × Option State). HasClosed o.0 o.1) (sym (pair q one.0)) one.1;
      others = stays;
    }
      where
        its : (q : Part) → q.name ≡ activity.name → part activity.name q.attempt ≡ q
        its q same = ap (λ n. part n q.attempt) (sym same)

        pair : (q : Part) → q.name ≡ activity.name → ◌≡◌ {A = Option State × Option State} (open_here g q f, open_here g q f') (open_item x q.attempt, open_item y q.attempt)
        pair q same =
            let was : open_here g q f ≡ open_item x q.attempt = ap (λ r. open_here g r f) (sym (its q same)) ∙ item_was q.attempt in
            let is : open_here g q f' ≡ open_item y q.attempt = ap (λ r. open_here g r f') (sym (its q same)) ∙ item_is q.attempt in
            cc

        stays : (item : List Part) → ((n : ℕ) (q : Part) → slice_get news n ≡ Some q → item ≡ q ∷ [] → ⊥) → ((q : Part) → closing ≡ Some q → item ≡ q ∷ [] → ⊥) → open_in ts g f' item ≡ open_in ts g f item
        stays [] new old = refl
        stays (q ∷ (r ∷ rs)) new old = below_stays q (r ∷ rs) (λ place. scopes q.attempt (r ∷ rs))
        stays (q ∷ []) new old = by (bytes_eq q.name activity.name) refl
          where
            by : (b : Bool) → bytes_eq q.name activity.name ≡ b → open_here g q f' ≡ open_here g q f
            by false apart = other_stays q (λ same. let n : true ≡ false = sym ((bytes_eq-Decides q.name activity.name).1 same) ∙ apart in let m : ⊥ = cc in absurd m)
            by true is_one =
                let same : q.name ≡ activity.name = (bytes_eq-Decides q.name activity.name).0 is_one in
                let its_q = its q same in
                let both = pair q same in
                ap (λ (o : Option State × Option State). o.1) both
                ∙ others q.attempt (λ n at. new n q (at ∙ ap Some its_q) refl) (λ at. old q (at ∙ ap Some its_q) refl)
                ∙ sym (ap (λ (o : Option State × Option State). o.0) both)
