-- What each step of an event does to a scope is what the machine's does.
use Rattle.std.proofs.Common.{◌≡◌, ℕ, ◌+◌, ◌-◌, Bool, true, false, ◌&&◌, ◌==◌, if◌then◌else◌}
use Rattle.std.proofs.Common.{List, [], ◌∷◌, ◌++◌, map, length, Option, Some, None, option_and_then, refl, sym, ap, ap₂}
use Rattle.std.proofs.Common.{subst, ◌∙◌, inl, inr}
use Rattle.std.specs.Prelude.{slice_get, slice_set}
use Rattle.std.proofs.lemmas.Bool.Decides.{eqb_tells}
use Rattle.dead_paths.specs.Signals.{signals}
use Rattle.flow_model.specs.Rows.{below}
use Rattle.flow_model.specs.Scopes.{part}
use Rattle.flow_model.specs.declared.graphs.Activity.{Activity}
use Rattle.flow_model.specs.declared.graphs.Container.{Container}
use Rattle.flow_model.specs.declared.graphs.Graph.{Graph}
use Rattle.flow_model.specs.declared.instances.Message.TheVariants.{Begin}
use Rattle.flow_model.specs.declared.instances.Path.{Path}
use Rattle.flow_model.specs.declared.instances.SourceEnd.{SourceEnd}
use Rattle.flow_model.specs.declared.instances.SourceEnd.TheVariants as end
use Rattle.machine.specs.Moves as m
use Rattle.machine.specs.Rows.{Standing, Inner, Runs, Row, Step, only}
use Rattle.machine.specs.Rows.{fresh_row}
use Rattle.navigator.specs.Steps as n
use Rattle.navigator.specs.Steps.{Fields, Told, with_state}
use Rattle.navigator.specs.Fresh.{IsFresh}
use Rattle.navigator.specs.declared.scopes.ActivityState.{ActivityState, Program, Nested}
use Rattle.navigator.specs.declared.scopes.NestedState.{NestedState, out-NestedState, out-roll-NestedState}
use Rattle.navigator.specs.declared.scopes.ScopeState.{ScopeState}
use Rattle.machine_scopes.specs.Seen.{stage_of, standing_of, row_of, scope_in, inner_at, scopes_of, scopes_in, told_as}
use Rattle.machine_scopes.proofs.Lists.{map_put, map_read, map_none, put_read, put_other}
use Rattle.machine_scopes.proofs.Lists.{push_long, push_last, push_other}
use Rattle.machine_scopes.proofs.FreshRows.{scopes_fresh}

-- a scene of the machine shows what a scope is made of, and what follows so far
pub record Shows (f : Fields) (t : Told) (x : m.Scene) : Type 0 where
  pub row : x.row ≡ row_of f
  pub scopes : (q : Step) (p : List Step) → x.scopes (q ∷ p) ≡ scopes_in f (q ∷ p)
  pub told : x.told ≡ told_as t

-- ---- another state of an activity

other_scopes : (f : Fields) (a : ℕ) (old new : ActivityState) → slice_get f.states a ≡ Some old
    → ((i : ℕ) → scope_in new i ≡ scope_in old i) → (b j : ℕ)
    → inner_at (slice_set f.states a new) b j ≡ inner_at f.states b j
other_scopes f a old new at same b j = elim (eqb_tells b a) [
  | inl one ↦
      let here : slice_get (slice_set f.states a new) b ≡ Some new = ap (slice_get (slice_set f.states a new)) one.1
      ∙ put_read f.states a old new at in
      let was : slice_get f.states b ≡ Some old = ap (slice_get f.states) one.1 ∙ at in
      rw (here, was) (same j)
  | inr apart ↦
      let other : slice_get (slice_set f.states a new) b ≡ slice_get f.states b = put_other f.states a b new apart.1 in
      rw other refl
]

-- it has the scopes that it had
pub stands_so : (f : Fields) (t : Told) (x : m.Scene) (a : ℕ) (old new : ActivityState)
    → slice_get f.states a ≡ Some old → ((i : ℕ) → scope_in new i ≡ scope_in old i) → Shows f t x
    → Shows (with_state a new f) t (m.with_row_of
    (record x.row { standings = slice_set x.row.standings a (standing_of new) }) x)
stands_so f t x a old new at same shows = record {
  row =
      ap (λ (r : Row). record r { standings = slice_set r.standings a (standing_of new) }) shows.row
      ∙ ap (λ xs. record (row_of f) { standings = xs }) (sym (map_put standing_of f.states a new));
  scopes = λ q p. shows.scopes q p ∙ ap (option_and_then (λ s. scopes_of s p)) (sym
      (other_scopes f a old new at same q.0 q.1));
  told = shows.told;
}

-- it is changed, where there is one
pub changes_so : (f : Fields) (t : Told) (x : m.Scene) (a : ℕ) (change : ActivityState → ActivityState)
    (move : Standing → Standing) → ((state : ActivityState) → standing_of (change state) ≡ move (standing_of state))
    → ((state : ActivityState) (i : ℕ) → scope_in (change state) i ≡ scope_in state i) → Shows f t x
    → Shows (n.changed_at change a (slice_get f.states a) f) t (m.with_row_of (m.changed move a x.row) x)
changes_so f t x a change move like same shows = go (slice_get f.states a) refl
  where
    row_read : (o : Option Standing) → slice_get (map standing_of f.states) a ≡ o
        → m.changed move a x.row ≡ m.changed_at move a o x.row
    row_read o at = ap (λ z. m.changed_at move a z x.row) (ap (λ (r : Row). slice_get r.standings a) shows.row ∙ at)

    go : (o : Option ActivityState) → slice_get f.states a ≡ o
        → Shows (n.changed_at change a o f) t (m.with_row_of (m.changed move a x.row) x)
    go None at =
        subst (λ r. Shows f t (m.with_row_of r x)) (sym (row_read None (map_none standing_of f.states a at)))
        (record { row = shows.row; scopes = shows.scopes; told = shows.told })
    go (Some state) at =
        subst (λ r. Shows (with_state a (change state) f) t (m.with_row_of r x))
        (ap (λ z. record x.row { standings = slice_set x.row.standings a z }) (like state)
        ∙ sym (row_read (Some (standing_of state)) (map_read standing_of f.states a state at)))
        (stands_so f t x a state (change state) at (same state) shows)

-- ---- an activity is settled

pub settles_so : (f : Fields) (t : Told) (x : m.Scene) (g : Graph) (path : Path) (a : ℕ) (e : SourceEnd) → Shows f t x
    → Shows (n.settled a e f) (n.tell_settled g path a e (f.unsettled - 1) t) (m.settles g path a e x)
settles_so f t x g path a e shows = record {
  row = ap (λ (r : Row). record r { ends = slice_set r.ends a e; unsettled = r.unsettled - 1 }) shows.row;
  scopes = shows.scopes;
  told =
      ap₂ (λ (u : m.Told) (r : Row). record u {
        signals = u.signals ++ signals g path a e;
        ends = u.ends ++ m.end_after path (r.unsettled - 1);
      }) shows.told shows.row;
}

dead_like : (state : ActivityState) → standing_of (n.dead_state state) ≡ m.dead_standing (standing_of state)
dead_like (Program p) = refl
dead_like (Nested k) = rw out-roll-NestedState refl

dead_same : (state : ActivityState) (i : ℕ) → scope_in (n.dead_state state) i ≡ scope_in state i
dead_same (Program p) i = refl
dead_same (Nested k) i = rw out-roll-NestedState refl

unsettled_kept : (f : Fields) (a : ℕ) (change : ActivityState → ActivityState) (o : Option ActivityState)
    → (n.changed_at change a o f).unsettled ≡ f.unsettled
unsettled_kept f a change None = refl
unsettled_kept f a change (Some state) = refl

pub dies_so : (f : Fields) (t : Told) (x : m.Scene) (g : Graph) (path : Path) (a : ℕ) → Shows f t x
    → Shows (n.dies a f) (n.tell_settled g path a end.Dead (f.unsettled - 1) t) (m.dies g path a x)
dies_so f t x g path a shows =
    let changed = n.changed_at n.dead_state a (slice_get f.states a) f in
    subst (λ left. Shows (n.dies a f) (n.tell_settled g path a end.Dead (left - 1) t) (m.dies g path a x))
    (unsettled_kept f a n.dead_state (slice_get f.states a))
    (settles_so changed t (m.with_row_of (m.changed m.dead_standing a x.row) x) g path a end.Dead
    (changes_so f t x a n.dead_state m.dead_standing dead_like dead_same shows))

finished_like : (state : ActivityState) → standing_of (n.finished_state state) ≡ m.finished_standing (standing_of state)
finished_like (Program p) = refl
finished_like (Nested k) = rw out-roll-NestedState refl

finished_same : (state : ActivityState) (i : ℕ) → scope_in (n.finished_state state) i ≡ scope_in state i
finished_same (Program p) i = refl
finished_same (Nested k) i = rw out-roll-NestedState refl

pub finishes_so : (f : Fields) (t : Told) (x : m.Scene) (g : Graph) (path : Path) (a : ℕ) (out : Container)
    → Shows f t x
    → Shows (n.finishes a out f) (n.tell_settled g path a (end.Finished out) (f.unsettled - 1) t)
    (m.settles g path a (end.Finished out) (m.with_row_of (m.changed m.finished_standing a x.row) x))
finishes_so f t x g path a out shows =
    let changed = n.changed_at n.finished_state a (slice_get f.states a) f in
    subst (λ left. Shows (n.finishes a out f) (n.tell_settled g path a (end.Finished out) (left - 1) t)
    (m.settles g path a (end.Finished out) (m.with_row_of (m.changed m.finished_standing a x.row) x)))
    (unsettled_kept f a n.finished_state (slice_get f.states a))
    (settles_so changed t (m.with_row_of (m.changed m.finished_standing a x.row) x) g path a (end.Finished out)
    (changes_so f t x a n.finished_state m.finished_standing finished_like finished_same shows))

-- ---- a scope begins

pushed : (states : List ActivityState) (a : ℕ) (k k' : NestedState) (next : ScopeState)
    → slice_get states a ≡ Some (Nested k)
    → (out-NestedState k').scopes.items ≡ (out-NestedState k).scopes.items ++ next ∷ []
    → (b j : ℕ) → inner_at (slice_set states a (Nested k')) b j
    ≡ (if (b == a) && (j == length (out-NestedState k).scopes.items) then Some next else inner_at states b j)
pushed states a k k' next at scopes b j = elim (eqb_tells b a) [
  | inl one ↦
      let here : slice_get (slice_set states a (Nested k')) b
      ≡ Some (Nested k') = ap (slice_get (slice_set states a (Nested k'))) one.1
      ∙ put_read states a (Nested k) (Nested k') at in
      let was : slice_get states b ≡ Some (Nested k) = ap (slice_get states) one.1 ∙ at in
      elim (eqb_tells j (length (out-NestedState k).scopes.items)) [
        | inl last ↦
            let read : slice_get (out-NestedState k').scopes.items j
            ≡ Some next = ap (slice_get (out-NestedState k').scopes.items) last.1
            ∙ ap (λ xs. slice_get xs (length (out-NestedState k).scopes.items)) scopes
            ∙ push_last (out-NestedState k).scopes.items next in
            rw (here, one.0, last.0) read
        | inr other ↦
            let read : slice_get (out-NestedState k').scopes.items j
            ≡ slice_get (out-NestedState k).scopes.items j = ap (λ xs. slice_get xs j) scopes
            ∙ push_other (out-NestedState k).scopes.items next j other.1 in
            rw (here, was, one.0, other.0) read
      ]
  | inr apart ↦
      let other : slice_get (slice_set states a (Nested k')) b
      ≡ slice_get states b = put_other states a b (Nested k') apart.1 in
      rw (other, apart.0) refl
]

picked : (t : Bool) (p : List Step) (r : Row) (next : ScopeState) (o : Option ScopeState) (xs : Option Row)
    → ((p : List Step) → only r p ≡ scopes_of next p) → xs ≡ option_and_then (λ s. scopes_of s p) o
    → (if t then only r p else xs) ≡ option_and_then (λ s. scopes_of s p) (if t then Some next else o)
picked true p r next o xs fresh same = fresh p
picked false p r next o xs fresh same = same

module _ (h : Graph) (input : Container) (path : Path) (a : ℕ) (activity : Activity) (k : NestedState) (f f' : Fields)
    (t t' : Told) (x : m.Scene) (at : slice_get f.states a ≡ Some (Nested k)) (shows : Shows f t x)
    (next : ScopeState) (fresh : IsFresh h input next) where
  grown : (state : ActivityState) → n.GrowsState next (Nested k) state → f' ≡ with_state a state f
      → t' ≡ record t { begins = t.begins ++ Begin (below path (part activity.name (n.next_of (Nested k)))) ∷ [] }
      → Shows f' t' (m.begins_next h input path a activity (length (out-NestedState k).scopes.items) x)
  grown (Program p) is scope tells = absurd is
  grown (Nested k') is scope tells =
      let count = length (out-NestedState k).scopes.items in
      let like : standing_of (Nested k') ≡ Inner Runs (count + 1) = ap₂ Inner (ap stage_of is.stage) (ap length
      is.scopes ∙ push_long (out-NestedState k).scopes.items next) in
      record {
        row =
            ap (λ (r : Row). record r { standings = slice_set r.standings a (Inner Runs (count + 1)) }) shows.row
            ∙ ap (λ xs. record (row_of f) { standings = xs })
            (ap (slice_set (map standing_of f.states) a) (sym like)
            ∙ sym (map_put standing_of f.states a (Nested k')))
            ∙ ap row_of (sym scope);
        scopes = λ q p.
            picked ((q.0 == a) && (q.1 == count)) p (fresh_row h input) next (inner_at f.states q.0 q.1)
            (x.scopes (q ∷ p)) (scopes_fresh h input next fresh) (shows.scopes q p)
            ∙ ap (option_and_then (λ s. scopes_of s p)) (sym (pushed f.states a k k' next at is.scopes q.0 q.1))
            ∙ ap (λ (u : Fields). scopes_in u (q ∷ p)) (sym scope);
        told =
            ap (λ (u : m.Told). record u {
              begins = u.begins ++ Begin (below path (part activity.name (count + 1)))
                  ∷ [];
            }) shows.told ∙ ap told_as (sym tells);
      }

pub begins_next_so : (h : Graph) (input : Container) (path : Path) (a : ℕ) (activity : Activity) (k : NestedState)
    (f f' : Fields) (t t' : Told) (x : m.Scene) → slice_get f.states a ≡ Some (Nested k) → Shows f t x
    → n.BeginsNext h input path a activity (Nested k) f f' t t'
    → Shows f' t' (m.begins_next h input path a activity (length (out-NestedState k).scopes.items) x)
begins_next_so h input path a activity k f f' t t' x at shows is =
    grown h input path a activity k f f' t t' x at shows is.next is.fresh is.state is.grows is.scope is.tells
