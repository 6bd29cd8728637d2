-- Items before and after: those of a scope that is kept, and those of a scope inside which one scope changes.
use Rattle.std.proofs.Common.{◌≡◌, ℕ, zero, suc, Bool, true, false, List, [], ◌∷◌, Option, Some, None, cond, refl, ap, sym, ◌∙◌, subst, inl, inr}
use Rattle.std.specs.Prelude.{◌≢◌, ◌&&◌, nat_le, slice_get, slice_set, option_and_then}
use Rattle.std.proofs.lemmas.Bool.Decides.{eqb_tells}
use Rattle.std.proofs.lemmas.Option.{none-some, option_and_then_some}
use Rattle.activity_states.specs.States.{State, fate_of}
use Rattle.blocks_subprocs.specs.Ends.{ends_of}
use Rattle.fate_laws.proofs.Items.{part_one, part_itself}
use Rattle.fate_laws.specs.StartedScopes.{ScopeFact}
use Rattle.fate_laws.specs.WellFormed.{Well}
use Rattle.flow_model.specs.Fates.{is_settled}
use Rattle.flow_model.specs.Rows.{same_part}
use Rattle.flow_model.specs.ScopeContainers.{graph_in}
use Rattle.flow_model.specs.Scopes.{Known, at, part}
use Rattle.flow_model.specs.declared.graphs.Activity.{Activity}
use Rattle.flow_model.specs.declared.graphs.Container.{Container}
use Rattle.flow_model.specs.declared.graphs.Graph.{Graph, out-Graph}
use Rattle.flow_model.specs.declared.graphs.Template.{Template}
use Rattle.flow_model.specs.declared.instances.Part.{Part}
use Rattle.flow_model.specs.declared.instances.SourceEnd.{SourceEnd}
use Rattle.flow_model.specs.declared.instances.SourceEnd.TheVariants as end
use Rattle.item_laws.proofs.Along.{inside_now, open_inner}
use Rattle.item_laws.proofs.ScopesInside.{IsInside, scoped}
use Rattle.item_laws.proofs.Kept.{Keeps}
use Rattle.item_laws.proofs.OneState.{found_name}
use Rattle.item_laws.specs.Performers.{PerformersStay, KeepsPerformers}
use Rattle.navigator.proofs.Leading.{set_other}
use Rattle.navigator.proofs.Places.{set_read}
use Rattle.navigator.proofs.Stepping.{counted_at}
use Rattle.navigator.specs.Events.{ScopeChange, ChangesState as ChangesStateOf, ChangesAt}
use Rattle.navigator.specs.Items.{Stand, stand, both, into_place, into, Entry, attempts_in, entry_of, entry, entry_here, entry_at, performer_in, performer_if, performer_at}
use Rattle.navigator.specs.Reading.{place_of, attempt_place, scope_of, inner_of}
use Rattle.navigator.specs.Serving.{Served}
use Rattle.navigator.specs.Showing.{IsCounted}
use Rattle.navigator.specs.Steps.{Fields, fields, with_state}
use Rattle.navigator.specs.Views.{Shows}
use Rattle.navigator.specs.declared.scopes.ActivityState.{ActivityState, Program, Nested}
use Rattle.navigator.specs.declared.scopes.NestedState.{NestedState, out-NestedState}
use Rattle.navigator.specs.declared.scopes.ScopeState.{ScopeState, out-ScopeState}
use Rattle.view_laws.specs.Coming.{Leads}

-- ---- the item of a part

-- an item of a scope
pub record IsEntryOf (here : Stand) (q : Part) (e : Entry) : Type 0 where
  pub graph : e.graph ≡ here.graph
  pub scope : e.scope ≡ here.scope
  pub place : place_of here.graph q.name ≡ Some e.number
  pub activity : slice_get (out-Graph here.graph).activities e.number ≡ Some e.activity
  pub state : slice_get (out-ScopeState here.scope).states.items e.number ≡ Some (Program e.state)
  pub attempt : e.attempt ≡ q.attempt

pub entry_in : (here : Stand) (q : Part) (e : Entry) → entry_here q here ≡ Some e → IsEntryOf here q e
entry_in here q e found = by (out-ScopeState here.scope).begun found
  where
    of : (a : ℕ) (activity : Activity) (p : State) → place_of here.graph q.name ≡ Some a → slice_get (out-Graph here.graph).activities a ≡ Some activity
        → slice_get (out-ScopeState here.scope).states.items a ≡ Some (Program p) → (b : Bool) → cond b (Some (entry_of here.graph here.scope a activity p q.attempt)) None ≡ Some e → IsEntryOf here q e
    of a activity p place is there false found = absurd (none-some e found)
    of a activity p place is there true found =
        subst (IsEntryOf here q) (let same : entry_of here.graph here.scope a activity p q.attempt ≡ e = cc in same)
        (record { graph = refl; scope = refl; place = place; activity = is; state = there; attempt = refl })

    at_place : (a : ℕ) (activity : Option Activity) (state : Option ActivityState) → place_of here.graph q.name ≡ Some a → slice_get (out-Graph here.graph).activities a ≡ activity
        → slice_get (out-ScopeState here.scope).states.items a ≡ state → entry here q.attempt a activity state ≡ Some e → IsEntryOf here q e
    at_place a None state place is there found = absurd (none-some e found)
    at_place a (Some activity) None place is there found = absurd (none-some e found)
    at_place a (Some activity) (Some (Nested n)) place is there found = absurd (none-some e found)
    at_place a (Some activity) (Some (Program p)) place is there found = of a activity p place is there (nat_le 1 q.attempt && nat_le q.attempt (attempts_in (fate_of p))) found

    by : (b : Bool)
        → cond b (option_and_then (λ a. entry here q.attempt a (slice_get (out-Graph here.graph).activities a) (slice_get (out-ScopeState here.scope).states.items a)) (place_of here.graph q.name)) None ≡ Some e
        → IsEntryOf here q e
    by false found = absurd (none-some e found)
    by true found =
        option_and_then_some (λ a. entry here q.attempt a (slice_get (out-Graph here.graph).activities a) (slice_get (out-ScopeState here.scope).states.items a)) (place_of here.graph q.name) e found
        (λ a place entered. at_place a (slice_get (out-Graph here.graph).activities a) (slice_get (out-ScopeState here.scope).states.items a) place refl refl entered)

-- ---- one step down

both_parts : (o : Option Graph) (s : Option ScopeState) (x : Stand) → both o s ≡ Some x → (o ≡ Some x.graph) × (s ≡ Some x.scope)
both_parts None s x is = absurd (none-some x is)
both_parts (Some h) None x is = absurd (none-some x is)
both_parts (Some h) (Some s) x is = (ap (option_and_then (λ (y : Stand). Some y.graph)) is, ap (option_and_then (λ (y : Stand). Some y.scope)) is)

module _ (ts : List Template) (g : Graph) (s : ScopeState) (x : Part) where
  in_state : (st : Stand) (a : ℕ) (activity : Activity) (state : ActivityState) → place_of g x.name ≡ Some a → slice_get (out-Graph g).activities a ≡ Some activity → graph_in ts activity.work ≡ Some st.graph
      → slice_get (fields s).states a ≡ Some state → scope_of state x.attempt ≡ Some st.scope → IsInside ts g s x st.graph st.scope
  in_state st a activity (Program p) place is runs there scoped = absurd (none-some st.scope scoped)
  in_state st a activity (Nested n) place is runs there scoped =
      option_and_then_some (slice_get (out-NestedState n).scopes.items) (attempt_place x.attempt) st.scope scoped (λ i counted found.
      record { place = a; number = i; activity = activity; nested = n; named = place; is = is; runs = runs; counted = counted; stated = there; found = found })

  pub inside_of : (st : Stand) → into ts (stand g s) x ≡ Some st → IsInside ts g s x st.graph st.scope
  inside_of st entered =
      option_and_then_some (into_place ts (stand g s) x.attempt) (place_of g x.name) st entered (λ a place there.
      option_and_then_some (λ activity. both (graph_in ts activity.work) (inner_of s a x.attempt)) (slice_get (out-Graph g).activities a) st there (λ activity is both_is.
      let parts = both_parts (graph_in ts activity.work) (inner_of s a x.attempt) st both_is in
      option_and_then_some (λ state. scope_of state x.attempt) (slice_get (fields s).states a) st.scope parts.1 (λ state stated scoped.
      in_state st a activity state place is parts.0 stated scoped)))

  pub into_of : (h : Graph) (t : ScopeState) → IsInside ts g s x h t → into ts (stand g s) x ≡ Some (stand h t)
  into_of h t inside =
      ap (option_and_then (into_place ts (stand g s) x.attempt)) inside.named
      ∙ ap (option_and_then (λ (activity : Activity). both (graph_in ts activity.work) (inner_of s inside.place x.attempt))) inside.is
      ∙ ap (λ o. both o (inner_of s inside.place x.attempt)) inside.runs
      ∙ ap (both (Some h)) (scoped ts g s x h t inside)

-- ---- what stays

same_stays : (e e' : Entry) → e ≡ e' → PerformersStay e e'
same_stays e e' same = subst (PerformersStay e) same (record { graph = refl; number = refl; activity = refl; attempt = refl; performers = λ b settled. refl })

-- who performed what is settled in a scope is the same
abbrev SamePerformers : ScopeState → ScopeState → Type 0
SamePerformers s s' = (b : ℕ) → is_settled (ends_of (fields s).ends b) ≡ true → performer_at s' b ≡ performer_at s b

-- two items of one part
here_stays : (g : Graph) (s s' : ScopeState) (q : Part) (e e' : Entry) → SamePerformers s s' → IsEntryOf (stand g s) q e → IsEntryOf (stand g s') q e' → PerformersStay e e'
here_stays g s s' q e e' same was is =
    let numbers : Some e.number ≡ Some e'.number = sym was.place ∙ is.place in
    let number : e.number ≡ e'.number = cc in
    let activities : Some e.activity ≡ Some e'.activity = sym was.activity ∙ ap (slice_get (out-Graph g).activities) number ∙ is.activity in
    let activity : e.activity ≡ e'.activity = cc in
    record {
      graph = is.graph ∙ sym was.graph;
      number = sym number;
      activity = sym activity;
      attempt = is.attempt ∙ sym was.attempt;
      performers = λ b settled.
          ap (λ (t : ScopeState). performer_at t b) is.scope ∙ same b (ap (λ (t : ScopeState). is_settled (ends_of (out-ScopeState t).ends.items b)) (sym was.scope) ∙ settled)
          ∙ ap (λ (t : ScopeState). performer_at t b) (sym was.scope);
    }

performer_same : (o : Option SourceEnd) (x y : Option ActivityState) → performer_in x ≡ performer_in y → performer_if o x ≡ performer_if o y
performer_same None x y same = refl
performer_same (Some end.Unsettled) x y same = refl
performer_same (Some end.Dead) x y same = refl
performer_same (Some (end.Finished out)) x y same = same

-- in a scope that is kept
pub kept_entries : (ts : List Template) (g : Graph) (s s' : ScopeState) → Keeps (fields s) (fields s') → KeepsPerformers ts g s s'
kept_entries ts g s s' keeps [] e e' was is = absurd (none-some e was)
kept_entries ts g s s' keeps (q ∷ []) e e' was is =
    here_stays g s s' q e e'
    (λ b settled. ap (λ o. performer_if o (slice_get (fields s').states b)) (keeps.ends b settled) ∙ performer_same (slice_get (fields s).ends b) (slice_get (fields s').states b) (slice_get (fields s).states b) (keeps.performers b settled))
    (entry_in (stand g s) q e was) (entry_in (stand g s') q e' is)
kept_entries ts g s s' keeps (q ∷ (r ∷ rs)) e e' was is =
    option_and_then_some (entry_at ts (r ∷ rs)) (into ts (stand g s) q) e was (λ x there found.
    let inside = inside_of ts g s q x there in
    let scope : inner_of s' inside.place q.attempt ≡ Some x.scope = keeps.scopes inside.place q.attempt x.scope (scoped ts g s q x.graph x.scope inside) in
    let now : into ts (stand g s') q ≡ Some x =
    ap (option_and_then (into_place ts (stand g s') q.attempt)) inside.named
    ∙ ap (option_and_then (λ (activity : Activity). both (graph_in ts activity.work) (inner_of s' inside.place q.attempt))) inside.is
    ∙ ap (λ o. both o (inner_of s' inside.place q.attempt)) inside.runs
    ∙ ap (both (Some x.graph)) scope in
    let same : Some e ≡ Some e' = sym found ∙ sym (ap (option_and_then (entry_at ts (r ∷ rs))) now) ∙ is in
    same_stays e e' (let one : e ≡ e' = cc in one))

-- ---- a scope inside which one scope changes

number_of : (j i : ℕ) → attempt_place j ≡ Some i → j ≡ suc i
number_of zero i is = absurd (none-some i is)
number_of (suc j) i is = let same : j ≡ i = cc in ap suc same

module _ (ts : List Template) (g : Graph) (s s' : ScopeState) (x : Part) (h : Graph) (inner next : ScopeState) (inside : IsInside ts g s x h inner) (n' : NestedState)
    (scopes : (out-NestedState n').scopes.items ≡ slice_set (out-NestedState inside.nested).scopes.items inside.number next) (around : fields s' ≡ with_state inside.place (Nested n') (fields s)) where
  state_now : slice_get (fields s').states inside.place ≡ Some (Nested n')
  state_now = ap (λ (u : Fields). slice_get u.states inside.place) around ∙ set_read (fields s).states inside.place (Nested inside.nested) (Nested n') inside.stated

  state_elsewhere : (b : ℕ) → b ≢ inside.place → slice_get (fields s').states b ≡ slice_get (fields s).states b
  state_elsewhere b apart = ap (λ (u : Fields). slice_get u.states b) around ∙ set_other (fields s).states inside.place b (Nested n') apart

  performers_around : SamePerformers s s'
  performers_around b settled =
      ap (λ o. performer_if o (slice_get (fields s').states b)) (ap (λ (u : Fields). slice_get u.ends b) around)
      ∙ performer_same (slice_get (fields s).ends b) (slice_get (fields s').states b) (slice_get (fields s).states b) (elim (eqb_tells b inside.place) [
        | inl same ↦ ap (λ c. performer_in (slice_get (fields s').states c)) same.1 ∙ ap performer_in state_now ∙ sym (ap performer_in inside.stated) ∙ ap (λ c. performer_in (slice_get (fields s).states c)) (sym same.1)
        | inr apart ↦ ap performer_in (state_elsewhere b apart.1)
      ])

  -- a part that leads elsewhere leads to the same scope as before
  other_scope : (r : Part) → same_part x r ≡ false → (b : ℕ) → place_of g r.name ≡ Some b → inner_of s' b r.attempt ≡ inner_of s b r.attempt
  other_scope r apart b at = elim (eqb_tells b inside.place) [
    | inl same ↦
        let was : slice_get (fields s).states b ≡ Some (Nested inside.nested) = ap (slice_get (fields s).states) same.1 ∙ inside.stated in
        let now : slice_get (fields s').states b ≡ Some (Nested n') = ap (slice_get (fields s').states) same.1 ∙ state_now in
        ap (option_and_then (λ (y : ActivityState). scope_of y r.attempt)) now ∙ go (at ∙ ap Some same.1) (attempt_place r.attempt) refl
        ∙ sym (ap (option_and_then (λ (y : ActivityState). scope_of y r.attempt)) was)
    | inr other ↦ ap (option_and_then (λ (y : ActivityState). scope_of y r.attempt)) (state_elsewhere b other.1)
  ]
    where
      differ : (y : Part) → same_part x y ≡ false → y ≡ x → ⊥
      differ y differs same = let n : true ≡ false = sym (part_itself x) ∙ ap (same_part x) (sym same) ∙ differs in let m : ⊥ = cc in m

      go : place_of g r.name ≡ Some inside.place → (o : Option ℕ) → attempt_place r.attempt ≡ o
          → option_and_then (slice_get (out-NestedState n').scopes.items) o ≡ option_and_then (slice_get (out-NestedState inside.nested).scopes.items) o
      go found None counted = refl
      go found (Some j) counted = elim (eqb_tells j inside.number) [
        | inl same ↦
            let names : r.name ≡ x.name = sym (found_name g r.name inside.place inside.activity found inside.is) ∙ found_name g x.name inside.place inside.activity inside.named inside.is in
            let numbers : r.attempt ≡ x.attempt = number_of r.attempt j counted ∙ ap suc same.1 ∙ sym (number_of x.attempt inside.number inside.counted) in
            absurd (differ r apart (ap (λ n. part n r.attempt) names ∙ ap (part x.name) numbers))
        | inr other ↦ ap (λ ss. slice_get ss j) scopes ∙ set_other (out-NestedState inside.nested).scopes.items inside.number j next other.1
      ]

  other_into : (r : Part) → same_part x r ≡ false → into ts (stand g s') r ≡ into ts (stand g s) r
  other_into r apart = go (place_of g r.name) refl
    where
      go : (place : Option ℕ) → place_of g r.name ≡ place → option_and_then (into_place ts (stand g s') r.attempt) place ≡ option_and_then (into_place ts (stand g s) r.attempt) place
      go None is = refl
      go (Some a) is = ap (λ (o : Option ScopeState). option_and_then (λ activity. both (graph_in ts activity.work) o) (slice_get (out-Graph g).activities a)) (other_scope r apart a is)

  pub inside_entries : KeepsPerformers ts h inner next → KeepsPerformers ts g s s'
  inside_entries below [] e e' was is = absurd (none-some e was)
  inside_entries below (q ∷ []) e e' was is = here_stays g s s' q e e' performers_around (entry_in (stand g s) q e was) (entry_in (stand g s') q e' is)
  inside_entries below (q ∷ (r ∷ rs)) e e' was is = by (same_part x q) refl
    where
      by : (b : Bool) → same_part x q ≡ b → PerformersStay e e'
      by false apart =
          let same : Some e ≡ Some e' = sym was ∙ ap (option_and_then (entry_at ts (r ∷ rs))) (sym (other_into q apart)) ∙ is in
          same_stays e e' (let one : e ≡ e' = cc in one)
      by true one =
          let same : x ≡ q = part_one x q one in
          let before : into ts (stand g s) q ≡ Some (stand h inner) = ap (into ts (stand g s)) (sym same) ∙ into_of ts g s x h inner inside in
          let after : into ts (stand g s') q ≡ Some (stand h next) = ap (into ts (stand g s')) (sym same) ∙ into_of ts g s' x h next (inside_now ts g s s' x h inner next inside n' scopes around) in
          below (r ∷ rs) e e' (sym (ap (option_and_then (entry_at ts (r ∷ rs))) before) ∙ was) (sym (ap (option_and_then (entry_at ts (r ∷ rs))) after) ∙ is)

-- ---- along a path

module _ (ts : List Template) (change : ScopeChange) (fact : ScopeFact)
    (here : (depth : ℕ) (k : Known) (g : Graph) (input : Container) (s s' : ScopeState) → Well ts depth g → Served ts depth g → IsCounted k → fact depth k g input → Shows ts depth k g input s
    → change g s s' → KeepsPerformers ts g s s') where
  pub along_keeps : (p : List Part) (depth : ℕ) (k : Known) (g : Graph) (input : Container) (s s' : ScopeState) → Well ts depth g → Served ts depth g → IsCounted k
      → Leads fact ts depth k g input p → Shows ts depth k g input s → ChangesAt ts change p g s s' → KeepsPerformers ts g s s'
  along_keeps [] depth k g input s s' well served counted leads shows changed = here depth k g input s s' well served counted leads shows changed
  along_keeps (q ∷ p) zero k g input s s' well served counted leads shows changed = absurd leads
  along_keeps (q ∷ p) (suc depth) k g input s s' well served counted leads shows changed =
      let one = open_inner ts depth k g input s q (λ h i. Leads fact ts depth (at q k) h i p) well leads shows in
      let inside = one.inside in
      let now = changed inside.place inside.number inside.activity leads.graph inside.nested one.inner inside.named inside.is inside.runs inside.counted inside.stated inside.found in
      by one.inner inside now.state now.inside now.around
      (λ t changes. along_keeps p depth (at q k) leads.graph leads.start.input one.inner t (well.inside leads.place leads.activity leads.is leads.graph leads.of)
      (served.inside leads.place leads.activity leads.graph leads.is leads.of) (counted_at q k counted) leads.within one.shows changes)
    where
      by : (inner : ScopeState) (inside : IsInside ts g s q leads.graph inner)
          → (state : ActivityState) → ChangesStateOf (ChangesAt ts change p leads.graph) inside.number inner inside.nested state → fields s' ≡ with_state inside.place state (fields s)
          → ((t : ScopeState) → ChangesAt ts change p leads.graph inner t → KeepsPerformers ts leads.graph inner t) → KeepsPerformers ts g s s'
      by inner inside (Program w) wrong around rest = absurd wrong
      by inner inside (Nested n') is around rest = inside_entries ts g s s' q leads.graph inner is.next inside n' is.scopes around (rest is.next is.changes)
