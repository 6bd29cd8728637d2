-- Where a change of one scope is the machine's, so is that of the scope to which parts lead.
use Rattle.std.proofs.Common.{◌≡◌, ℕ, Bool, true, false, ◌&&◌, ◌==◌, if◌then◌else◌, List, [], ◌∷◌, map, length}
use Rattle.std.proofs.Common.{Option, Some, option_and_then, refl, sym, ap, ◌∙◌, inl, inr}
use Rattle.std.specs.Prelude.{slice_get, slice_set}
use Rattle.std.proofs.Math.Path.{fun_ext}
use Rattle.std.proofs.lemmas.Bool.Decides.{eqb_tells}
use Rattle.flow_model.specs.declared.graphs.Graph.{Graph}
use Rattle.flow_model.specs.declared.graphs.Template.{Template}
use Rattle.flow_model.specs.declared.instances.Part.{Part}
use Rattle.machine.specs.Moves.{Change, Told, changes_at, left_inside}
use Rattle.machine.specs.Rows.{Step, inside, with_inside}
use Rattle.navigator.specs.Events.{ScopeChange, ChangesAt, ChangesInside, ChangesState}
use Rattle.navigator.specs.Steps.{Fields, fields, with_state}
use Rattle.navigator.specs.declared.scopes.ActivityState.{ActivityState, Program, Nested}
use Rattle.navigator.specs.declared.scopes.NestedState.{NestedState, out-NestedState}
use Rattle.navigator.specs.declared.scopes.ScopeState.{ScopeState}
use Rattle.machine_scopes.specs.Seen.{standing_of, row_of, inner_at, scopes_of, Leads, Along}
use Rattle.machine_scopes.proofs.Lists.{set_itself, map_put, map_read, put_read, put_other, put_long}

-- another state of an activity that stands as before leaves the row
pub same_row : (f : Fields) (a : ℕ) (old new : ActivityState) → slice_get f.states a ≡ Some old
    → standing_of new ≡ standing_of old → row_of (with_state a new f) ≡ row_of f
same_row f a old new at same = ap (λ xs. record (row_of f) { standings = xs })
    (map_put standing_of f.states a new ∙ ap (slice_set (map standing_of f.states) a) same
    ∙ set_itself (map standing_of f.states) a (standing_of old) (map_read standing_of f.states a old at))

-- which scopes are inside then
inner_put : (states : List ActivityState) (a i : ℕ) (n n' : NestedState) (next : ScopeState) (inner : ScopeState)
    → slice_get states a ≡ Some (Nested n)
    → slice_get (out-NestedState n).scopes.items i ≡ Some inner
    → (out-NestedState n').scopes.items ≡ slice_set (out-NestedState n).scopes.items i next
    → (b j : ℕ) → inner_at (slice_set states a (Nested n')) b j
    ≡ (if (b == a) && (j == i) then Some next else inner_at states b j)
inner_put states a i n n' next inner at has scopes b j = elim (eqb_tells b a) [
  | inl same ↦
      let here : slice_get (slice_set states a (Nested n')) b
      ≡ Some (Nested n') = ap (slice_get (slice_set states a (Nested n'))) same.1
      ∙ put_read states a (Nested n) (Nested n') at in
      let was : slice_get states b ≡ Some (Nested n) = ap (slice_get states) same.1 ∙ at in
      elim (eqb_tells j i) [
        | inl one ↦
            let read : slice_get (out-NestedState n').scopes.items j
            ≡ Some next = ap (slice_get (out-NestedState n').scopes.items) one.1 ∙ ap (λ xs. slice_get xs i) scopes
            ∙ put_read (out-NestedState n).scopes.items i inner next has in
            rw (here, same.0, one.0) read
        | inr two ↦
            let read : slice_get (out-NestedState n').scopes.items j
            ≡ slice_get (out-NestedState n).scopes.items j = ap (λ xs. slice_get xs j) scopes
            ∙ put_other (out-NestedState n).scopes.items i j next two.1 in
            rw (here, was, same.0, two.0) read
      ]
  | inr apart ↦
      let other : slice_get (slice_set states a (Nested n')) b
      ≡ slice_get states b = put_other states a b (Nested n') apart.1 in
      rw (other, apart.0) refl
]

chosen : (t : Bool) (p : List Step) (next : ScopeState) (o : Option ScopeState)
    → (if t then scopes_of next p else option_and_then (λ inner. scopes_of inner p) o)
    ≡ option_and_then (λ inner. scopes_of inner p) (if t then Some next else o)
chosen true p next o = refl
chosen false p next o = refl

-- the scopes of a state in which one scope inside has changed
pub put_inside : (s s' : ScopeState) (a i : ℕ) (n n' : NestedState) (inner next : ScopeState)
    → slice_get (fields s).states a ≡ Some (Nested n)
    → slice_get (out-NestedState n).scopes.items i ≡ Some inner
    → (out-NestedState n').scopes.items ≡ slice_set (out-NestedState n).scopes.items i next
    → (out-NestedState n').stage ≡ (out-NestedState n).stage → fields s' ≡ with_state a (Nested n') (fields s)
    → with_inside a i (scopes_of next) (scopes_of s) ≡ scopes_of s'
put_inside s s' a i n n' inner next at has scopes stage around = fun_ext each
  where
    stands : standing_of (Nested n') ≡ standing_of (Nested n)
    stands = let long = ap length scopes ∙ put_long (out-NestedState n).scopes.items i next in rw (stage, long) refl

    each : (p : List Step) → with_inside a i (scopes_of next) (scopes_of s) p ≡ scopes_of s' p
    each [] = ap Some (sym (ap row_of around ∙ same_row (fields s) a (Nested n) (Nested n') at stands))
    each (q ∷ p) =
        chosen ((q.0 == a) && (q.1 == i)) p next (inner_at (fields s).states q.0 q.1)
        ∙ ap (option_and_then (λ t. scopes_of t p))
        (sym (inner_put (fields s).states a i n n' next inner at has scopes q.0 q.1))
        ∙ ap (λ (f : Fields). option_and_then (λ t. scopes_of t p) (inner_at f.states q.0 q.1)) (sym around)

-- the scopes of an attempt
pub read_inside : (s : ScopeState) (a i : ℕ) (n : NestedState) (inner : ScopeState)
    → slice_get (fields s).states a ≡ Some (Nested n) → slice_get (out-NestedState n).scopes.items i ≡ Some inner
    → inside a i (scopes_of s) ≡ scopes_of inner
read_inside s a i n inner at has = fun_ext (λ p. rw at (ap (option_and_then (λ t. scopes_of t p)) has))

module _ (ts : List Template) (change : ScopeChange) (move : Change) (P : Graph → ScopeState → Type 0)
    (told : Told) where
  module _ (q : Part) (qs : List Part) (g : Graph) (s s' : ScopeState) (along : Leads ts q g s (Along ts P qs)) where
    at_part : changes_at ts move (q ∷ qs) g (scopes_of s)
        ≡ left_inside along.place along.attempt (scopes_of s)
        (changes_at ts move qs along.graph (inside along.place along.attempt (scopes_of s)))
    at_part = rw (along.named, along.there, along.runs, along.counted) refl

    by_state : ((t' : ScopeState) → ChangesAt ts change qs along.graph along.inner t'
        → changes_at ts move qs along.graph (scopes_of along.inner) ≡ record { scopes = scopes_of t'; told = told })
        → (state : ActivityState) → ChangesState (ChangesAt ts change qs
        along.graph) along.attempt along.inner along.nested state
        → fields s' ≡ with_state along.place state (fields s)
        → changes_at ts move (q ∷ qs) g (scopes_of s) ≡ record { scopes = scopes_of s'; told = told }
    by_state below (Program p) inner around = absurd inner
    by_state below (Nested n') inner around =
        at_part
        ∙ ap (λ xs. left_inside along.place along.attempt (scopes_of s) (changes_at ts move qs along.graph xs))
        (read_inside s along.place along.attempt along.nested along.inner along.stands along.has)
        ∙ ap (left_inside along.place along.attempt (scopes_of s)) (below inner.next inner.changes)
        ∙ ap (λ xs. record { scopes = xs; told = told })
        (put_inside s s' along.place along.attempt along.nested n' along.inner inner.next along.stands along.has
        inner.scopes inner.stage around)

    through : ((t' : ScopeState) → ChangesAt ts change qs along.graph along.inner t'
        → changes_at ts move qs along.graph (scopes_of along.inner) ≡ record { scopes = scopes_of t'; told = told })
        → ChangesInside (ChangesAt ts change qs along.graph) along.place along.attempt along.inner along.nested s s'
        → changes_at ts move (q ∷ qs) g (scopes_of s) ≡ record { scopes = scopes_of s'; told = told }
    through below c = by_state below c.state c.inside c.around

  module _ (here : (h : Graph) (u u' : ScopeState) → P h u → change h u u'
      → move h (scopes_of u) ≡ record { scopes = scopes_of u'; told = told }) where
    pub goes_in : (parts : List Part) (g : Graph) (s s' : ScopeState) → Along ts P parts g s
        → ChangesAt ts change parts g s s' → changes_at ts move parts g (scopes_of s) ≡ record {
          scopes = scopes_of s';
          told = told;
        }
    goes_in [] g s s' along is = here g s s' along is
    goes_in (q ∷ qs) g s s' along is =
        through q qs g s s' along (λ t' inner. goes_in qs along.graph along.inner t' along.behind inner)
        (is along.place along.attempt along.activity along.graph along.nested along.inner along.named along.there
        along.runs along.counted along.stands along.has)
