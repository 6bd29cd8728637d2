-- What stays in a scope by an event: who performed what is settled, and the scopes of the attempts that have started.
use Rattle.std.proofs.Common.{◌≡◌, ℕ, zero, suc, Bool, true, false, List, [], ◌∷◌, ◌++◌, Option, Some, None, refl, ap, sym, ◌∙◌, subst, inl, inr}
use Rattle.std.specs.Prelude.{◌≢◌, slice_get, slice_set, option_and_then}
use Rattle.std.proofs.lemmas.Bool.Decides.{eqb_tells}
use Rattle.std.proofs.lemmas.Option.{none-some}
use Rattle.activity_states.specs.States.{State, made_ready, completed}
use Rattle.activity_states.specs.declared.states.Completed.{Completed}
use Rattle.blocks_subprocs.specs.Ends.{ends_of}
use Rattle.flow_model.specs.Fates.{is_settled}
use Rattle.flow_model.specs.ScopeContainers.{graph_in, base_of, looped}
use Rattle.flow_model.specs.declared.graphs.Activity.{Activity}
use Rattle.flow_model.specs.declared.graphs.Container.{Container}
use Rattle.flow_model.specs.declared.graphs.Graph.{Graph, out-Graph}
use Rattle.flow_model.specs.declared.graphs.Template.{Template}
use Rattle.flow_model.specs.declared.instances.Path.{Path}
use Rattle.flow_model.specs.declared.instances.SourceEnd.{SourceEnd}
use Rattle.flow_model.specs.declared.instances.SourceEnd.TheVariants as end
use Rattle.item_laws.proofs.OpenScopes.{scope_in}
use Rattle.navigator.proofs.Leading.{set_other}
use Rattle.navigator.proofs.Places.{set_read}
use Rattle.navigator.specs.Items.{performer_in}
use Rattle.navigator.specs.Reading.{attempt_place, scope_of}
use Rattle.navigator.specs.Steps.{Fields, Told, with_state, changed_at, settled, dead_state, finished_state, GrowsState, BeginsNext, Begins, Opens, Decides, EndsBy, CompletesBy}
use Rattle.navigator.specs.declared.scopes.ActivityState.{ActivityState, Program, Nested}
use Rattle.navigator.specs.declared.scopes.NestedStage.TheVariants as stages
use Rattle.navigator.specs.declared.scopes.NestedState.{out-NestedState}
use Rattle.navigator.specs.declared.scopes.ScopeState.{ScopeState}
use Rattle.item_laws.proofs.Deciding.{staged_scopes}

-- what is settled stays so, with who performed it, and each scope stays
pub record Keeps (f f' : Fields) : Type 0 where
  pub ends : (b : ℕ) → is_settled (ends_of f.ends b) ≡ true → slice_get f'.ends b ≡ slice_get f.ends b
  pub performers : (b : ℕ) → is_settled (ends_of f.ends b) ≡ true → performer_in (slice_get f'.states b) ≡ performer_in (slice_get f.states b)
  pub scopes : (b j : ℕ) (t : ScopeState) → scope_in f b j ≡ Some t → scope_in f' b j ≡ Some t

pub keeps_same : (f f' : Fields) → f'.ends ≡ f.ends → f'.states ≡ f.states → Keeps f f'
keeps_same f f' ends states = record {
  ends = λ b is. ap (λ es. slice_get es b) ends;
  performers = λ b is. ap (λ ss. performer_in (slice_get ss b)) states;
  scopes = λ b j t found. ap (λ ss. option_and_then (λ (z : ActivityState). scope_of z j) (slice_get ss b)) states ∙ found;
}

-- ---- the state of one activity changes

module _ (a : ℕ) (x y : ActivityState) (f f' : Fields) (there : slice_get f.states a ≡ Some x) (states : f'.states ≡ slice_set f.states a y)
    (others : (b : ℕ) → b ≢ a → slice_get f'.ends b ≡ slice_get f.ends b)
    (this : is_settled (ends_of f.ends a) ≡ true → (slice_get f'.ends a ≡ slice_get f.ends a) × (performer_in (Some y) ≡ performer_in (Some x)))
    (scopes : (j : ℕ) (t : ScopeState) → scope_of x j ≡ Some t → scope_of y j ≡ Some t) where
  now : slice_get f'.states a ≡ Some y
  now = ap (λ ss. slice_get ss a) states ∙ set_read f.states a x y there

  elsewhere : (b : ℕ) → b ≢ a → slice_get f'.states b ≡ slice_get f.states b
  elsewhere b apart = ap (λ ss. slice_get ss b) states ∙ set_other f.states a b y apart

  pub keeps_one : Keeps f f'
  keeps_one = record {
    ends = λ b is. elim (eqb_tells b a) [
      | inl same ↦ ap (slice_get f'.ends) same.1 ∙ (this (ap (λ c. is_settled (ends_of f.ends c)) (sym same.1) ∙ is)).0 ∙ ap (slice_get f.ends) (sym same.1)
      | inr apart ↦ others b apart.1
    ];
    performers = λ b is. elim (eqb_tells b a) [
      | inl same ↦
          ap (λ c. performer_in (slice_get f'.states c)) same.1 ∙ ap performer_in now ∙ (this (ap (λ c. is_settled (ends_of f.ends c)) (sym same.1) ∙ is)).1
          ∙ sym (ap performer_in there) ∙ ap (λ c. performer_in (slice_get f.states c)) (sym same.1)
      | inr apart ↦ ap performer_in (elsewhere b apart.1)
    ];
    scopes = λ b j t found. elim (eqb_tells b a) [
      | inl same ↦
          let was : slice_get f.states b ≡ Some x = ap (slice_get f.states) same.1 ∙ there in
          let is : slice_get f'.states b ≡ Some y = ap (slice_get f'.states) same.1 ∙ now in
          ap (option_and_then (λ (z : ActivityState). scope_of z j)) is ∙ scopes j t (ap (option_and_then (λ (z : ActivityState). scope_of z j)) (sym was) ∙ found)
      | inr apart ↦ ap (option_and_then (λ (z : ActivityState). scope_of z j)) (elsewhere b apart.1) ∙ found
    ];
  }

-- an activity that isn't settled may change in any way
abbrev pub IsLeft : Fields → ℕ → Type 0
IsLeft f a = is_settled (ends_of f.ends a) ≡ false

not_both : (b : Bool) → b ≡ false → b ≡ true → ⊥
not_both b is at = let n : false ≡ true = sym is ∙ at in let m : ⊥ = cc in m

module _ (a : ℕ) (x y : ActivityState) (f f' : Fields) (there : slice_get f.states a ≡ Some x) (scopes : (j : ℕ) (t : ScopeState) → scope_of x j ≡ Some t → scope_of y j ≡ Some t) where
  -- it changes and isn't settled by it
  pub keeps_state : performer_in (Some y) ≡ performer_in (Some x) → f' ≡ with_state a y f → Keeps f f'
  keeps_state same is =
      keeps_one a x y f f' there (ap (λ (u : Fields). u.states) is) (λ b apart. ap (λ (u : Fields). slice_get u.ends b) is) (λ at. (ap (λ (u : Fields). slice_get u.ends a) is, same)) scopes

  -- it changes where it isn't settled
  pub keeps_open : IsLeft f a → f' ≡ with_state a y f → Keeps f f'
  keeps_open unended is =
      keeps_one a x y f f' there (ap (λ (u : Fields). u.states) is) (λ b apart. ap (λ (u : Fields). slice_get u.ends b) is) (λ at. absurd (not_both (is_settled (ends_of f.ends a)) unended at)) scopes

  -- and is settled by it
  pub keeps_settling : (e : SourceEnd) → IsLeft f a → f' ≡ settled a e (with_state a y f) → Keeps f f'
  keeps_settling e unended is =
      keeps_one a x y f f' there (ap (λ (u : Fields). u.states) is) (λ b apart. ap (λ (u : Fields). slice_get u.ends b) is ∙ set_other f.ends a b e apart)
      (λ at. absurd (not_both (is_settled (ends_of f.ends a)) unended at)) scopes

-- ---- one more scope

get_first : {X : Type 0} (xs ys : List X) (n : ℕ) (x : X) → slice_get xs n ≡ Some x → slice_get (xs ++ ys) n ≡ Some x
get_first [] ys n x at = absurd (none-some x at)
get_first (y ∷ xs) ys zero x at = at
get_first (y ∷ xs) ys (suc n) x at = get_first xs ys n x at

pub keeps_growing : (h : Graph) (input : Container) (path : Path) (a : ℕ) (activity : Activity) (x : ActivityState) (f f' : Fields) (before after : Told) → slice_get f.states a ≡ Some x
    → BeginsNext h input path a activity x f f' before after → Keeps f f'
keeps_growing h input path a activity x f f' before after there next = by x next.state there next.grows next.scope
  where
    by : (x state : ActivityState) → slice_get f.states a ≡ Some x → GrowsState next.next x state → f' ≡ with_state a state f → Keeps f f'
    by (Program p) state there same is =
        keeps_state a (Program p) state f f' there (λ j t found. absurd (none-some t found)) (ap (λ z. performer_in (Some z)) same) is
    by (Nested n) (Program p) there wrong is = absurd wrong
    by (Nested n) (Nested n') there more is =
        keeps_state a (Nested n) (Nested n') f f' there
        (λ j t found. ap (λ ss. option_and_then (slice_get ss) (attempt_place j)) more.scopes ∙ longer t (attempt_place j) found) refl is
      where
        longer : (t : ScopeState) (o : Option ℕ) → option_and_then (slice_get (out-NestedState n).scopes.items) o ≡ Some t
            → option_and_then (slice_get ((out-NestedState n).scopes.items ++ next.next ∷ [])) o ≡ Some t
        longer t None found = absurd (none-some t found)
        longer t (Some i) found = get_first (out-NestedState n).scopes.items (next.next ∷ []) i t found

-- ---- an activity that isn't settled is decided

dead_kept : (x : ActivityState) (j : ℕ) (t : ScopeState) → scope_of x j ≡ Some t → scope_of (dead_state x) j ≡ Some t
dead_kept (Program p) j t found = absurd (none-some t found)
dead_kept (Nested n) j t found = staged_scopes stages.Dead n j ∙ found

finished_kept : (x : ActivityState) (j : ℕ) (t : ScopeState) → scope_of x j ≡ Some t → scope_of (finished_state x) j ≡ Some t
finished_kept (Program p) j t found = absurd (none-some t found)
finished_kept (Nested n) j t found = staged_scopes stages.Finished n j ∙ found

module _ (ts : List Template) (g : Graph) (path : Path) (clock a : ℕ) (activity : Activity) (f f' : Fields) (before after : Told) (unended : IsLeft f a) where
  opens_kept : (x : ActivityState) → slice_get f.states a ≡ Some x → Opens ts g path clock a activity (Some x) f f' before after → Keeps f f'
  opens_kept (Program p) there is = keeps_open a (Program p) (Program (made_ready p clock)) f f' there (λ j t found. absurd (none-some t found)) unended is.0
  opens_kept (Nested n) there is = by (graph_in ts activity.work) is
    where
      by : (o : Option Graph) → Begins o (base_of g activity a f.input (ends_of f.ends)) path a activity (Nested n) f f' before after → Keeps f f'
      by None same = keeps_same f f' (ap (λ (u : Fields). u.ends) same.0) (ap (λ (u : Fields). u.states) same.0)
      by (Some h) next = keeps_growing h (base_of g activity a f.input (ends_of f.ends)) path a activity (Nested n) f f' before after there next

  pub decided_kept : (o : Option Bool) (x : ActivityState) → slice_get f.states a ≡ Some x → Decides ts g path clock a activity o f f' before after → Keeps f f'
  decided_kept None x there is = keeps_same f f' (ap (λ (u : Fields). u.ends) is.0) (ap (λ (u : Fields). u.states) is.0)
  decided_kept (Some true) x there is = opens_kept x there (subst (λ o. Opens ts g path clock a activity o f f' before after) there is)
  decided_kept (Some false) x there is =
      keeps_settling a x (dead_state x) f f' there (dead_kept x) end.Dead unended (is.0 ∙ ap (λ o. settled a end.Dead (changed_at dead_state a o f)) there)

  -- the scope of an attempt ends
  pub ended_kept : (b : Bool) (h : Graph) (out : Container) (x : ActivityState) → slice_get f.states a ≡ Some x → EndsBy b g h path a activity x out f f' before after → Keeps f f'
  ended_kept true h out x there is =
      keeps_settling a x (finished_state x) f f' there (finished_kept x) (end.Finished out) unended (is.0 ∙ ap (λ o. settled a (end.Finished out) (changed_at finished_state a o f)) there)
  ended_kept false h out x there next = keeps_growing h (looped (out-Graph g).loops a out (base_of g activity a f.input (ends_of f.ends))) path a activity x f f' before after there next

  -- an attempt is completed
  pub completed_kept : (b : Bool) (p : State) (c : Completed) → slice_get f.states a ≡ Some (Program p) → CompletesBy b g path clock a activity p c f f' before after → Keeps f f'
  completed_kept true p c there is =
      keeps_settling a (Program p) (Program (completed p c true clock)) f f' there (λ j t found. absurd (none-some t found)) (end.Finished c.output) unended is.0
  completed_kept false p c there is = keeps_open a (Program p) (Program (completed p c false clock)) f f' there (λ j t found. absurd (none-some t found)) unended is.0
