-- What is found at each path after a change of a hold.
use Rattle.std.proofs.Common.{◌≡◌, ℕ, zero, suc, ◌+◌, Bool, true, false, List, [], ◌∷◌, ◌++◌, length, Option, Some, None, cond, refl, ap, sym, ◌∙◌, subst, inl, inr}
use Rattle.std.specs.Prelude.{◌&&◌, ◌==◌, nat_le, bytes_eq, slice_get, slice_set, option_and_then}
use Rattle.std.proofs.lemmas.Bool.{and_from, both_ways, eq-eqb}
use Rattle.std.proofs.lemmas.Bool.Decides.{eqb_tells}
use Rattle.std.proofs.lemmas.List.Quantifiers.{position-Some}
use Rattle.std.proofs.lemmas.Option.{none-some, option_and_then_some, get_or_from_slice_get}
use Rattle.std.proofs.lemmas.Slice.Eq.{bytes_eq-Decides}
use Rattle.activity_states.specs.States.{State, waiting, dead, opened, finished, fate_of, open_fate}
use Rattle.fate_laws.proofs.Items.{part_one}
use Rattle.flow_model.specs.Rows.{same_part}
use Rattle.flow_model.specs.ScopeContainers.{graph_in}
use Rattle.flow_model.specs.declared.graphs.Activity.{Activity}
use Rattle.flow_model.specs.declared.graphs.Graph.{Graph, out-Graph}
use Rattle.flow_model.specs.declared.graphs.Template.{Template}
use Rattle.flow_model.specs.declared.instances.Hold.{Hold}
use Rattle.flow_model.specs.declared.instances.Hold.TheVariants as hold
use Rattle.flow_model.specs.declared.instances.Part.{Part}
use Rattle.flow_model.specs.declared.names.Name.{Name}
use Rattle.navigator.proofs.Leading.{set_other}
use Rattle.navigator.proofs.Places.{set_read}
use Rattle.navigator.specs.Events.{ChangesState, ChangesAt}
use Rattle.navigator.specs.Holding.{held_by, take_of, held_state, held_at, take_in, take_at, SetsHold, HoldsChanged, name_one, held_if, Stands, IsHeldSo}
use Rattle.navigator.specs.Items.{Stand, Entry, stand, both, into_place, into, attempts_in, entry_of, entry_of_state, entry, entry_here, entry_at}
use Rattle.navigator.specs.Reading.{place_of, attempt_place, scope_of, inner_of}
use Rattle.navigator.specs.Steps.{Fields, fields, with_state, changed_at}
use Rattle.navigator.specs.declared.instance.HoldChange.{HoldChange}
use Rattle.navigator.specs.declared.instance.HoldChange.TheVariants.{Person, Agent, Nobody}
use Rattle.navigator.specs.declared.scopes.ActivityState.{ActivityState, Program, Nested}
use Rattle.navigator.specs.declared.scopes.NestedState.{NestedState, out-NestedState}
use Rattle.navigator.specs.declared.scopes.ScopeState.{ScopeState}

-- ---- states

attempts_open : (h : Hold) (k : ℕ) → attempts_in (open_fate h k) ≡ k
attempts_open hold.Nobody k = refl
attempts_open (hold.Person who) k = refl
attempts_open (hold.Agent take) k = refl

-- as many attempts have been made
attempts_held : (change : HoldChange) (p : State) → attempts_in (fate_of (held_by change p)) ≡ attempts_in (fate_of p)
attempts_held (Person who) waiting = refl
attempts_held (Person who) dead = refl
attempts_held (Person who) (opened cs h takes since) = sym (attempts_open h (length cs + 1))
attempts_held (Person who) (finished cs) = refl
attempts_held Agent waiting = refl
attempts_held Agent dead = refl
attempts_held Agent (opened cs h takes since) = sym (attempts_open h (length cs + 1))
attempts_held Agent (finished cs) = refl
attempts_held Nobody waiting = refl
attempts_held Nobody dead = refl
attempts_held Nobody (opened cs h takes since) = sym (attempts_open h (length cs + 1))
attempts_held Nobody (finished cs) = refl

-- the state of an activity becomes another one, in which the items have changed so
abbrev StateBecomes : (State → State) → ActivityState → ActivityState → Type 0
StateBecomes c (Program p) (Program p') = (p' ≡ c p) × (attempts_in (fate_of p') ≡ attempts_in (fate_of p))
StateBecomes c (Program p) (Nested n) = ⊥
StateBecomes c (Nested n) (Program p) = ⊥
StateBecomes c (Nested n) (Nested n') = Unit {0}

abbrev Becomes : (State → State) → Option ActivityState → Option ActivityState → Type 0
Becomes c None None = Unit {0}
Becomes c None (Some y) = ⊥
Becomes c (Some x) None = ⊥
Becomes c (Some x) (Some y) = StateBecomes c x y

becomes_same : (o : Option ActivityState) → Becomes (λ p. p) o o
becomes_same None = tt
becomes_same (Some (Program p)) = (refl, refl)
becomes_same (Some (Nested n)) = tt

becomes_held : (change : HoldChange) (x : ActivityState) → StateBecomes (held_by change) x (held_state change x)
becomes_held change (Program p) = (refl, attempts_held change p)
becomes_held change (Nested n) = tt

stands_same : (o : Option Entry) → Stands (λ p. p) o o
stands_same None = tt
stands_same (Some e) = record { graph = refl; number = refl; activity = refl; attempt = refl; state = refl; input = refl; ends = refl }

-- ---- one scope

-- all of a scope but the states of its activities and what is known of joins
record IsAround (s s' : ScopeState) : Type 0 where
  begun : (fields s').begun ≡ (fields s).begun
  input : (fields s').input ≡ (fields s).input
  ends : (fields s').ends ≡ (fields s).ends

around_state : (s s' : ScopeState) (a : ℕ) (state : ActivityState) → fields s' ≡ with_state a state (fields s) → IsAround s s'
around_state s s' a state new = record { begun = ap (λ (f : Fields). f.begun) new; input = ap (λ (f : Fields). f.input) new; ends = ap (λ (f : Fields). f.ends) new }

module _ (c : State → State) (g : Graph) (s s' : ScopeState) (around : IsAround s s') (q : Part) where
  state_stands : (a : ℕ) (activity : Activity) (x y : ActivityState) → StateBecomes c x y → Stands c (entry_of_state (stand g s) q.attempt a activity x) (entry_of_state (stand g s') q.attempt a activity y)
  state_stands a activity (Program p) (Program p') is =
      subst (λ m. Stands c (entry_of_state (stand g s) q.attempt a activity (Program p)) (cond (nat_le 1 q.attempt && nat_le q.attempt m) (Some (entry_of g s' a activity p' q.attempt)) None)) (sym is.1)
      (go (nat_le 1 q.attempt && nat_le q.attempt (attempts_in (fate_of p))))
    where
      go : (b : Bool) → Stands c (cond b (Some (entry_of g s a activity p q.attempt)) None) (cond b (Some (entry_of g s' a activity p' q.attempt)) None)
      go true = record { graph = refl; number = refl; activity = refl; attempt = refl; state = is.0; input = around.input; ends = around.ends }
      go false = tt
  state_stands a activity (Program p) (Nested n) is = absurd is
  state_stands a activity (Nested n) (Program p) is = absurd is
  state_stands a activity (Nested n) (Nested n') is = tt

  entry_stands : (a : ℕ) (activity : Option Activity) (x y : Option ActivityState) → Becomes c x y → Stands c (entry (stand g s) q.attempt a activity x) (entry (stand g s') q.attempt a activity y)
  entry_stands a None x y is = tt
  entry_stands a (Some activity) None None is = tt
  entry_stands a (Some activity) None (Some y) is = absurd is
  entry_stands a (Some activity) (Some x) None is = absurd is
  entry_stands a (Some activity) (Some x) (Some y) is = state_stands a activity x y is

  abbrev found_in : ScopeState → Option ℕ → Option Entry
  found_in t place = option_and_then (λ a. entry (stand g t) q.attempt a (slice_get (out-Graph g).activities a) (slice_get (fields t).states a)) place

  -- the item of a part stands so where the state of its activity has become so
  here_stands : ((a : ℕ) → place_of g q.name ≡ Some a → Becomes c (slice_get (fields s).states a) (slice_get (fields s').states a)) → Stands c (entry_here q (stand g s)) (entry_here q (stand g s'))
  here_stands becomes = subst (λ b. Stands c (entry_here q (stand g s)) (cond b (found_in s' (place_of g q.name)) None)) (sym around.begun) (go (fields s).begun (at (place_of g q.name) refl))
    where
      at : (place : Option ℕ) → place_of g q.name ≡ place → Stands c (found_in s place) (found_in s' place)
      at None is = tt
      at (Some a) is = entry_stands a (slice_get (out-Graph g).activities a) (slice_get (fields s).states a) (slice_get (fields s').states a) (becomes a is)

      go : (b : Bool) → Stands c (found_in s (place_of g q.name)) (found_in s' (place_of g q.name)) → Stands c (cond b (found_in s (place_of g q.name)) None) (cond b (found_in s' (place_of g q.name)) None)
      go true is = is
      go false is = tt

-- the items inside stay where the scope stays to which the part leads
below_stands : (ts : List Template) (g : Graph) (s s' : ScopeState) (r r' : Part) (rs : List Part) → ((a : ℕ) → place_of g r.name ≡ Some a → inner_of s' a r.attempt ≡ inner_of s a r.attempt)
    → Stands (λ p. p) (entry_at ts (r ∷ (r' ∷ rs)) (stand g s)) (entry_at ts (r ∷ (r' ∷ rs)) (stand g s'))
below_stands ts g s s' r r' rs same =
    subst (λ o. Stands (λ p. p) (entry_at ts (r ∷ (r' ∷ rs)) (stand g s)) (option_and_then (entry_at ts (r' ∷ rs)) o)) (sym (go (place_of g r.name) refl)) (stands_same (entry_at ts (r ∷ (r' ∷ rs)) (stand g s)))
  where
    go : (place : Option ℕ) → place_of g r.name ≡ place → option_and_then (into_place ts (stand g s') r.attempt) place ≡ option_and_then (into_place ts (stand g s) r.attempt) place
    go None is = refl
    go (Some a) is = ap (λ (o : Option ScopeState). option_and_then (λ activity. both (graph_in ts activity.work) o) (slice_get (out-Graph g).activities a)) (same a is)

-- the activity to which a name leads has this name
found_name : (g : Graph) (name : Name) (a : ℕ) (activity : Activity) → place_of g name ≡ Some a → slice_get (out-Graph g).activities a ≡ Some activity → activity.name ≡ name
found_name g name a activity found is =
    let passes = (position-Some (λ (x : Activity). bytes_eq x.name name) (out-Graph g).activities a activity found).1 in
    let there = get_or_from_slice_get (out-Graph g).activities a activity activity is in
    (bytes_eq-Decides activity.name name).0 (ap (λ (x : Activity). bytes_eq x.name name) (sym there) ∙ passes)

-- ---- the scope of the item

module _ (ts : List Template) (change : HoldChange) (take : ℕ) (g : Graph) (s s' : ScopeState) (q : Part) (sets : SetsHold q.name change take g s s') (a : ℕ) (activity : Activity) (state : ActivityState)
    (place : place_of g q.name ≡ Some a) (is : slice_get (out-Graph g).activities a ≡ Some activity) (there : slice_get (fields s).states a ≡ Some state) where
  new : fields s' ≡ with_state a (held_state change state) (fields s)
  new = sets.scope ∙ ap (λ o. held_at change o (fields s)) place ∙ ap (λ o. changed_at (held_state change) a o (fields s)) there

  here_now : slice_get (fields s').states a ≡ Some (held_state change state)
  here_now = ap (λ (f : Fields). slice_get f.states a) new ∙ set_read (fields s).states a state (held_state change state) there

  elsewhere : (b : ℕ) → (b ≡ a → ⊥) → slice_get (fields s').states b ≡ slice_get (fields s).states b
  elsewhere b apart = ap (λ (f : Fields). slice_get f.states b) new ∙ set_other (fields s).states a b (held_state change state) apart

  same_scopes : (x : ActivityState) (j : ℕ) → scope_of (held_state change x) j ≡ scope_of x j
  same_scopes (Program p) j = refl
  same_scopes (Nested n) j = refl

  inner_now : (b j : ℕ) → inner_of s' b j ≡ inner_of s b j
  inner_now b j = elim (eqb_tells b a) [
    | inl same ↦
        let at : slice_get (fields s').states b ≡ Some (held_state change state) = ap (slice_get (fields s').states) same.1 ∙ here_now in
        let was : slice_get (fields s).states b ≡ Some state = ap (slice_get (fields s).states) same.1 ∙ there in
        ap (option_and_then (λ (x : ActivityState). scope_of x j)) at ∙ same_scopes state j ∙ sym (ap (option_and_then (λ (x : ActivityState). scope_of x j)) was)
    | inr apart ↦ ap (option_and_then (λ (x : ActivityState). scope_of x j)) (elsewhere b apart.1)
  ]

  state_at : (r : Part) (t : Bool) → bytes_eq q.name r.name ≡ t → (b : ℕ) → place_of g r.name ≡ Some b → Becomes (held_if t change) (slice_get (fields s).states b) (slice_get (fields s').states b)
  state_at r true same b at =
      let names : q.name ≡ r.name = (bytes_eq-Decides q.name r.name).0 same in
      let two : Some a ≡ Some b = sym place ∙ ap (place_of g) names ∙ at in
      let one : a ≡ b = cc in
      let was : slice_get (fields s).states b ≡ Some state = ap (slice_get (fields s).states) (sym one) ∙ there in
      let now : slice_get (fields s').states b ≡ Some (held_state change state) = ap (slice_get (fields s').states) (sym one) ∙ here_now in
      rw (was, now) (becomes_held change state)
  state_at r false same b at = elim (eqb_tells b a) [
    | inl one ↦
        let found : place_of g r.name ≡ Some a = at ∙ ap Some one.1 in
        let names : q.name ≡ r.name = sym (found_name g q.name a activity place is) ∙ found_name g r.name a activity found is in
        absurd (both_ways (bytes_eq q.name r.name) same ((bytes_eq-Decides q.name r.name).1 names))
    | inr apart ↦ subst (λ o. Becomes (λ p. p) (slice_get (fields s).states b) o) (sym (elsewhere b apart.1)) (becomes_same (slice_get (fields s).states b))
  ]

  held_here : (other : List Part) → Stands (held_if (name_one (q ∷ []) other) change) (entry_at ts other (stand g s)) (entry_at ts other (stand g s'))
  held_here [] = tt
  held_here (r ∷ []) = here_stands (held_if (bytes_eq q.name r.name) change) g s s' (around_state s s' a (held_state change state) new) r (state_at r (bytes_eq q.name r.name) refl)
  held_here (r ∷ (r' ∷ rs)) = below_stands ts g s s' r r' rs (λ b at. inner_now b r.attempt)

-- ---- the scopes around it

number_of : (j i : ℕ) → attempt_place j ≡ Some i → j ≡ suc i
number_of zero i is = absurd (none-some i is)
number_of (suc j) i is = let same : j ≡ i = cc in ap suc same

and_none : (b : Bool) → (b && false) ≡ false
and_none true = refl
and_none false = refl

same_one : (x r : Part) → x.name ≡ r.name → x.attempt ≡ r.attempt → same_part x r ≡ true
same_one x r names attempts = and_from (bytes_eq x.name r.name) (x.attempt == r.attempt) ((bytes_eq-Decides x.name r.name).1 names) (eq-eqb x.attempt r.attempt attempts)

both_parts : (o : Option Graph) (s : Option ScopeState) (x : Stand) → both o s ≡ Some x → (o ≡ Some x.graph) × (s ≡ Some x.scope)
both_parts None s x is = absurd (none-some x is)
both_parts (Some h) None x is = absurd (none-some x is)
both_parts (Some h) (Some s) x is = (ap (option_and_then (λ (y : Stand). Some y.graph)) is, ap (option_and_then (λ (y : Stand). Some y.scope)) is)

-- the way one step down, to the scope of an attempt
record IsWay (ts : List Template) (g : Graph) (s : ScopeState) (x : Part) (h : Graph) (inner : ScopeState) : Type 0 where
  place : ℕ
  number : ℕ
  activity : Activity
  nested : NestedState
  named : place_of g x.name ≡ Some place
  is : slice_get (out-Graph g).activities place ≡ Some activity
  runs : graph_in ts activity.work ≡ Some h
  counted : attempt_place x.attempt ≡ Some number
  stated : slice_get (fields s).states place ≡ Some (Nested nested)
  found : slice_get (out-NestedState nested).scopes.items number ≡ Some inner

module _ (ts : List Template) (g : Graph) (s : ScopeState) (x : Part) (st : Stand) where
  way_in : (a : ℕ) (activity : Activity) (state : ActivityState) → place_of g x.name ≡ Some a → slice_get (out-Graph g).activities a ≡ Some activity → graph_in ts activity.work ≡ Some st.graph
      → slice_get (fields s).states a ≡ Some state → scope_of state x.attempt ≡ Some st.scope → IsWay ts g s x st.graph st.scope
  way_in a activity (Program p) place is runs there scoped = absurd (none-some st.scope scoped)
  way_in a activity (Nested n) place is runs there scoped =
      option_and_then_some (slice_get (out-NestedState n).scopes.items) (attempt_place x.attempt) st.scope scoped (λ i counted found.
      record { place = a; number = i; activity = activity; nested = n; named = place; is = is; runs = runs; counted = counted; stated = there; found = found })

  way_of : into ts (stand g s) x ≡ Some st → IsWay ts g s x st.graph st.scope
  way_of entered =
      option_and_then_some (into_place ts (stand g s) x.attempt) (place_of g x.name) st entered (λ a place there.
      option_and_then_some (λ activity. both (graph_in ts activity.work) (inner_of s a x.attempt)) (slice_get (out-Graph g).activities a) st there (λ activity is both_is.
      let parts = both_parts (graph_in ts activity.work) (inner_of s a x.attempt) st both_is in
      option_and_then_some (λ state. scope_of state x.attempt) (slice_get (fields s).states a) st.scope parts.1 (λ state stated scoped.
      way_in a activity state place is parts.0 stated scoped)))

-- one scope inside changes, and nothing else of the scope around it
module _ (ts : List Template) (change : HoldChange) (g : Graph) (s s' : ScopeState) (x z : Part) (zs : List Part) (h : Graph) (inner next : ScopeState) (way : IsWay ts g s x h inner) (n' : NestedState)
    (scopes : (out-NestedState n').scopes.items ≡ slice_set (out-NestedState way.nested).scopes.items way.number next) (around : fields s' ≡ with_state way.place (Nested n') (fields s))
    (inside : (other : List Part) → Stands (held_if (name_one (z ∷ zs) other) change) (entry_at ts other (stand h inner)) (entry_at ts other (stand h next))) where
  nested_now : slice_get (fields s').states way.place ≡ Some (Nested n')
  nested_now = ap (λ (f : Fields). slice_get f.states way.place) around ∙ set_read (fields s).states way.place (Nested way.nested) (Nested n') way.stated

  other_state : (b : ℕ) → (b ≡ way.place → ⊥) → slice_get (fields s').states b ≡ slice_get (fields s).states b
  other_state b apart = ap (λ (f : Fields). slice_get f.states b) around ∙ set_other (fields s).states way.place b (Nested n') apart

  next_found : slice_get (out-NestedState n').scopes.items way.number ≡ Some next
  next_found = ap (λ ss. slice_get ss way.number) scopes ∙ set_read (out-NestedState way.nested).scopes.items way.number inner next way.found

  -- the items of this scope are of other activities
  items_stay : (b : ℕ) → Becomes (λ p. p) (slice_get (fields s).states b) (slice_get (fields s').states b)
  items_stay b = elim (eqb_tells b way.place) [
    | inl same ↦
        let was : slice_get (fields s).states b ≡ Some (Nested way.nested) = ap (slice_get (fields s).states) same.1 ∙ way.stated in
        let now : slice_get (fields s').states b ≡ Some (Nested n') = ap (slice_get (fields s').states) same.1 ∙ nested_now in
        rw (was, now) tt
    | inr apart ↦ subst (λ o. Becomes (λ p. p) (slice_get (fields s).states b) o) (sym (other_state b apart.1)) (becomes_same (slice_get (fields s).states b))
  ]

  -- the scope to which the part leads, before and after
  entered : (t : ScopeState) (n : NestedState) (u : ScopeState) → slice_get (fields t).states way.place ≡ Some (Nested n) → slice_get (out-NestedState n).scopes.items way.number ≡ Some u → into ts (stand g t) x ≡ Some (stand h u)
  entered t n u stated found =
      let scoped : inner_of t way.place x.attempt ≡ Some u = ap (option_and_then (λ (y : ActivityState). scope_of y x.attempt)) stated ∙ ap (option_and_then (slice_get (out-NestedState n).scopes.items)) way.counted ∙ found in
      ap (option_and_then (into_place ts (stand g t) x.attempt)) way.named
      ∙ ap (option_and_then (λ (activity : Activity). both (graph_in ts activity.work) (inner_of t way.place x.attempt))) way.is
      ∙ ap (λ o. both o (inner_of t way.place x.attempt)) way.runs
      ∙ ap (both (Some h)) scoped

  -- a part that leads elsewhere leads to the same scope as before
  other_scope : (r : Part) → same_part x r ≡ false → (b : ℕ) → place_of g r.name ≡ Some b → inner_of s' b r.attempt ≡ inner_of s b r.attempt
  other_scope r apart b at = elim (eqb_tells b way.place) [
    | inl same ↦
        let was : slice_get (fields s).states b ≡ Some (Nested way.nested) = ap (slice_get (fields s).states) same.1 ∙ way.stated in
        let now : slice_get (fields s').states b ≡ Some (Nested n') = ap (slice_get (fields s').states) same.1 ∙ nested_now in
        ap (option_and_then (λ (y : ActivityState). scope_of y r.attempt)) now ∙ go (at ∙ ap Some same.1) (attempt_place r.attempt) refl ∙ sym (ap (option_and_then (λ (y : ActivityState). scope_of y r.attempt)) was)
    | inr other ↦ ap (option_and_then (λ (y : ActivityState). scope_of y r.attempt)) (other_state b other.1)
  ]
    where
      go : place_of g r.name ≡ Some way.place → (o : Option ℕ) → attempt_place r.attempt ≡ o → option_and_then (slice_get (out-NestedState n').scopes.items) o ≡ option_and_then (slice_get (out-NestedState way.nested).scopes.items) o
      go found None counted = refl
      go found (Some j) counted = elim (eqb_tells j way.number) [
        | inl same ↦
            let names : x.name ≡ r.name = sym (found_name g x.name way.place way.activity way.named way.is) ∙ found_name g r.name way.place way.activity found way.is in
            let numbers : x.attempt ≡ r.attempt = number_of x.attempt way.number way.counted ∙ ap suc (sym same.1) ∙ sym (number_of r.attempt j counted) in
            absurd (both_ways (same_part x r) apart (same_one x r names numbers))
        | inr other ↦ ap (λ ss. slice_get ss j) scopes ∙ set_other (out-NestedState way.nested).scopes.items way.number j next other.1
      ]

  held_inside : (other : List Part) → Stands (held_if (name_one (x ∷ (z ∷ zs)) other) change) (entry_at ts other (stand g s)) (entry_at ts other (stand g s'))
  held_inside [] = tt
  held_inside (r ∷ []) =
      subst (λ b. Stands (held_if b change) (entry_here r (stand g s)) (entry_here r (stand g s'))) (sym (and_none (same_part x r)))
      (here_stands (λ p. p) g s s' (around_state s s' way.place (Nested n') around) r (λ b at. items_stay b))
  held_inside (r ∷ (r' ∷ rs)) = go (same_part x r) refl
    where
      go : (b : Bool) → same_part x r ≡ b → Stands (held_if (b && name_one (z ∷ zs) (r' ∷ rs)) change) (entry_at ts (r ∷ (r' ∷ rs)) (stand g s)) (entry_at ts (r ∷ (r' ∷ rs)) (stand g s'))
      go false apart = below_stands ts g s s' r r' rs (other_scope r apart)
      go true same =
          let one : x ≡ r = part_one x r same in
          let was : into ts (stand g s) r ≡ Some (stand h inner) = ap (into ts (stand g s)) (sym one) ∙ entered s way.nested inner way.stated way.found in
          let now : into ts (stand g s') r ≡ Some (stand h next) = ap (into ts (stand g s')) (sym one) ∙ entered s' n' next nested_now next_found in
          rw (was, now) (inside (r' ∷ rs))

-- ---- any path

module _ (ts : List Template) (change : HoldChange) (take : ℕ) where
  -- the items of the activity are held so, those of others stay, and the take number is that of the activity
  record IsHeldAlong (item : List Part) (g : Graph) (s s' : ScopeState) (e : Entry) : Type 0 where
    others : (other : List Part) → Stands (held_if (name_one item other) change) (entry_at ts other (stand g s)) (entry_at ts other (stand g s'))
    take_is : take ≡ take_of change e.state

  -- an item is of a program activity
  of_state : (at : Stand) (q : Part) (a : ℕ) (activity : Activity) (state : ActivityState) (e : Entry) → entry_of_state at q.attempt a activity state ≡ Some e → take_in change (Some state) ≡ take_of change e.state
  of_state at q a activity (Nested n) e is = absurd (none-some e is)
  of_state at q a activity (Program p) e is = go (nat_le 1 q.attempt && nat_le q.attempt (attempts_in (fate_of p))) is
    where
      go : (b : Bool) → cond b (Some (entry_of at.graph at.scope a activity p q.attempt)) None ≡ Some e → take_of change p ≡ take_of change e.state
      go true is = let same : entry_of at.graph at.scope a activity p q.attempt ≡ e = cc in ap (λ (u : Entry). take_of change u.state) same
      go false is = absurd (none-some e is)

  along_here : (q : Part) (g : Graph) (s s' : ScopeState) (e : Entry) → entry_at ts (q ∷ []) (stand g s) ≡ Some e → SetsHold q.name change take g s s' → IsHeldAlong (q ∷ []) g s s' e
  along_here q g s s' e there sets = begun (fields s).begun there
    where
      at : (a : ℕ) (activity : Option Activity) (state : Option ActivityState) → place_of g q.name ≡ Some a → slice_get (out-Graph g).activities a ≡ activity → slice_get (fields s).states a ≡ state
          → entry (stand g s) q.attempt a activity state ≡ Some e → IsHeldAlong (q ∷ []) g s s' e
      at a None state place is stated found = absurd (none-some e found)
      at a (Some activity) None place is stated found = absurd (none-some e found)
      at a (Some activity) (Some state) place is stated found = record {
        others = held_here ts change take g s s' q sets a activity state place is stated;
        take_is = sets.take_is ∙ ap (λ o. take_at change o (fields s)) place ∙ ap (take_in change) stated ∙ of_state (stand g s) q a activity state e found;
      }

      begun : (b : Bool) → cond b (option_and_then (λ a. entry (stand g s) q.attempt a (slice_get (out-Graph g).activities a) (slice_get (fields s).states a)) (place_of g q.name)) None ≡ Some e → IsHeldAlong (q ∷ []) g s s' e
      begun false found = absurd (none-some e found)
      begun true found =
          option_and_then_some (λ a. entry (stand g s) q.attempt a (slice_get (out-Graph g).activities a) (slice_get (fields s).states a)) (place_of g q.name) e found
          (λ a place entered. at a (slice_get (out-Graph g).activities a) (slice_get (fields s).states a) place refl refl entered)

  -- one step down
  step_held : (x z : Part) (zs qs : List Part) (c : Graph → ScopeState → ScopeState → Type 0) (g : Graph) (s s' : ScopeState) (e : Entry) → entry_at ts (x ∷ (z ∷ zs)) (stand g s) ≡ Some e → ChangesAt ts c (x ∷ qs) g s s'
      → ((h : Graph) (t t' : ScopeState) → entry_at ts (z ∷ zs) (stand h t) ≡ Some e → ChangesAt ts c qs h t t' → IsHeldAlong (z ∷ zs) h t t' e) → IsHeldAlong (x ∷ (z ∷ zs)) g s s' e
  step_held x z zs qs c g s s' e there changes below =
      option_and_then_some (entry_at ts (z ∷ zs)) (into ts (stand g s) x) e there (λ st into_is found.
      let way = way_of ts g s x st into_is in
      let changed = changes way.place way.number way.activity st.graph way.nested st.scope way.named way.is way.runs way.counted way.stated way.found in
      go st way found changed.state changed.inside changed.around)
    where
      go : (st : Stand) (way : IsWay ts g s x st.graph st.scope) → entry_at ts (z ∷ zs) st ≡ Some e → (state : ActivityState) → ChangesState (ChangesAt ts c qs st.graph) way.number st.scope way.nested state
          → fields s' ≡ with_state way.place state (fields s) → IsHeldAlong (x ∷ (z ∷ zs)) g s s' e
      go st way found (Program p) inside around = absurd inside
      go st way found (Nested n') inside around =
          let rest = below st.graph st.scope inside.next found inside.changes in
          record {
            others = held_inside ts change g s s' x z zs st.graph st.scope inside.next way n' inside.scopes around rest.others;
            take_is = rest.take_is;
          }

  held_along : (parts : List Part) (q : Part) (g : Graph) (s s' : ScopeState) (e : Entry) → entry_at ts (parts ++ q ∷ []) (stand g s) ≡ Some e → ChangesAt ts (SetsHold q.name change take) parts g s s'
      → IsHeldAlong (parts ++ q ∷ []) g s s' e
  held_along [] q g s s' e there changes = along_here q g s s' e there changes
  held_along (x ∷ []) q g s s' e there changes = step_held x q [] [] (SetsHold q.name change take) g s s' e there changes (λ h t t' found inside. held_along [] q h t t' e found inside)
  held_along (x ∷ (y ∷ ys)) q g s s' e there changes =
      step_held x y (ys ++ q ∷ []) (y ∷ ys) (SetsHold q.name change take) g s s' e there changes (λ h t t' found inside. held_along (y ∷ ys) q h t t' e found inside)

  -- a path names its own activity
  name_self : (q : Part) (qs : List Part) → name_one (q ∷ qs) (q ∷ qs) ≡ true
  name_self q [] = (bytes_eq-Decides q.name q.name).1 refl
  name_self q (r ∷ rs) = and_from (same_part q q) (name_one (r ∷ rs) (r ∷ rs)) (same_one q q refl refl) (name_self r rs)

  -- a path that isn't empty is its front and its last part
  front_and_last : (q : Part) (qs : List Part) → (front : List Part) × (last : Part) × (q ∷ qs ≡ front ++ last ∷ [])
  front_and_last q [] = ([], q, refl)
  front_and_last q (r ∷ rs) = let rest = front_and_last r rs in (q ∷ rest.0, rest.1, ap (λ (ps : List Part). q ∷ ps) rest.2)

  pub holds_set : (item : List Part) (g : Graph) (s s' : ScopeState) (e : Entry) → entry_at ts item (stand g s) ≡ Some e → HoldsChanged ts item change g s s' take → IsHeldSo ts item change g s s' take e
  holds_set [] g s s' e there changed = absurd (none-some e there)
  holds_set (q ∷ qs) g s s' e there changed =
      let split = front_and_last q qs in
      let along = held_along split.0 split.1 g s s' e (ap (λ ps. entry_at ts ps (stand g s)) (sym split.2) ∙ there) (changed split.0 split.1 split.2) in
      let held : IsHeldAlong (q ∷ qs) g s s' e = subst (λ ps. IsHeldAlong ps g s s' e) (sym split.2) along in
      record {
        item_is = subst (λ b. Stands (held_if b change) (Some e) (entry_at ts (q ∷ qs) (stand g s'))) (name_self q qs) (subst (λ o. Stands (held_if (name_one (q ∷ qs) (q ∷ qs)) change) o (entry_at ts (q ∷ qs) (stand g s'))) there (held.others (q ∷ qs)));
        others = held.others;
        take_is = held.take_is;
      }
