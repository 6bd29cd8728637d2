-- What happens to items where an activity is decided, or has one more scope.
use Rattle.std.proofs.Common.{◌≡◌, ℕ, zero, suc, ◌==◌, Bool, true, false, List, [], ◌∷◌, ◌++◌, map, Option, Some, None, cond, refl, ap, sym, ◌∙◌, subst, append-nil}
use Rattle.std.specs.Prelude.{◌≢◌, slice_get, option_and_then}
use Rattle.std.proofs.lemmas.Option.{none-some}
use Rattle.activity_states.specs.States.{State, waiting, dead, opened, finished, fate_of, held, made_ready}
use Rattle.blocks_subprocs.specs.Ends.{ends_of}
use Rattle.fate_laws.proofs.Items.{eqb_one}
use Rattle.flow_model.specs.Rows.{below}
use Rattle.flow_model.specs.ScopeContainers.{graph_in, base_of}
use Rattle.flow_model.specs.Scopes.{part, Start}
use Rattle.flow_model.specs.declared.graphs.Activity.{Activity}
use Rattle.flow_model.specs.declared.graphs.Container.{Container}
use Rattle.flow_model.specs.declared.graphs.Graph.{Graph, out-Graph}
use Rattle.flow_model.specs.declared.graphs.Template.{Template}
use Rattle.flow_model.specs.declared.graphs.Work.{Work, Program as RunsProgram, Block, Process}
use Rattle.flow_model.specs.declared.instances.Fate.{Fate}
use Rattle.flow_model.specs.declared.instances.Fate.TheVariants as fates
use Rattle.flow_model.specs.declared.instances.Hold.TheVariants.{Nobody}
use Rattle.flow_model.specs.declared.instances.Part.{Part}
use Rattle.flow_model.specs.declared.instances.Path.{Path}
use Rattle.flow_model.specs.declared.instances.SourceEnd.TheVariants as end
use Rattle.item_laws.proofs.Moves.{Moves, moves_none}
use Rattle.item_laws.proofs.NoItem.{fresh_none}
use Rattle.item_laws.proofs.OneState.{ChangesState, state_elsewhere, one_moves}
use Rattle.item_laws.proofs.OpenScopes.{open_attempt, opens_next, open_item, open_inside, open_in}
use Rattle.item_laws.specs.OpenItems.{HasOpened}
use Rattle.navigator.proofs.SameActivities.{Named}
use Rattle.navigator.specs.Fresh.{IsFresh}
use Rattle.navigator.specs.Reading.{attempt_place, scope_of}
use Rattle.navigator.specs.Steps.{Fields, Told, with_state, changed_at, settled, at_stage, dead_state, GrowsState, BeginsNext, Begins, Opens, Decides}
use Rattle.navigator.specs.Views.{ShowsStart, ShowsWork}
use Rattle.navigator.specs.declared.scopes.ActivityState.{ActivityState, Program, Nested}
use Rattle.navigator.specs.declared.scopes.NestedStage.{NestedStage}
use Rattle.navigator.specs.declared.scopes.NestedStage.TheVariants as stages
use Rattle.navigator.specs.declared.scopes.NestedState.{NestedState, out-NestedState, out-roll-NestedState}
use Rattle.navigator.specs.declared.scopes.ScopeState.{ScopeState}

-- ---- an activity that waits

-- a program activity waits
abbrev pub IsIdle : ActivityState → Type 0
IsIdle (Program p) = p ≡ waiting
IsIdle (Nested n) = Unit {0}

waits_idle : (p : State) → fate_of (held p Nobody) ≡ fates.Waiting → p ≡ waiting
waits_idle waiting is = refl
waits_idle dead is = let n : ⊥ = cc in absurd n
waits_idle (opened cs hold takes since) is = let n : ⊥ = cc in absurd n
waits_idle (finished cs) is = let n : ⊥ = cc in absurd n

pub idle_of : (w : Work) (fate : Fate) (outs : List Container) (starts : List Start) (shows : ShowsStart) (x : ActivityState) → fate ≡ fates.Waiting → ShowsWork w fate outs starts shows x → IsIdle x
idle_of (RunsProgram w) fate outs starts shows (Program p) waits is = waits_idle p (is.stands ∙ waits)
idle_of (RunsProgram w) fate outs starts shows (Nested n) waits is = tt
idle_of (Block g) fate outs starts shows (Program p) waits is = absurd is
idle_of (Block g) fate outs starts shows (Nested n) waits is = tt
idle_of (Process t) fate outs starts shows (Program p) waits is = absurd is
idle_of (Process t) fate outs starts shows (Nested n) waits is = tt

-- ---- the steps

-- another stage keeps the scopes
pub staged_scopes : (stage : NestedStage) (n : NestedState) (j : ℕ) → scope_of (Nested (at_stage stage n)) j ≡ scope_of (Nested n) j
staged_scopes stage n j = ap (λ ss. option_and_then (slice_get ss) (attempt_place j)) (rw out-roll-NestedState refl)

-- of what a scope tells, these items became open by a change of the activity at a place
pub record MovesAt (ts : List Template) (g : Graph) (path : Path) (clock a : ℕ) (f f' : Fields) (before after : Told) : Type 0 where
  pub news : List Part
  pub moves : Moves clock [] news None (open_in ts g f) (open_in ts g f')
  pub ready : after.ready ≡ before.ready ++ map (below path) news
  pub begun : f'.begun ≡ f.begun
  pub elsewhere : (b : ℕ) → b ≢ a → slice_get f'.states b ≡ slice_get f.states b

module _ (ts : List Template) (g : Graph) (path : Path) (clock a : ℕ) (activity : Activity) (is : slice_get (out-Graph g).activities a ≡ Some activity) (named : Named g) (f f' : Fields) (before after : Told) where
  abbrev pub Result : Type 0
  Result = MovesAt ts g path clock a f f' before after

  -- nothing happens
  pub stays_so : f' ≡ f → after.ready ≡ before.ready → Result
  stays_so same told = record {
    news = [];
    moves = moves_none clock [] (open_in ts g f) (open_in ts g f') (λ item. ap (λ (u : Fields). open_in ts g u item) same);
    ready = told ∙ sym (append-nil before.ready);
    begun = ap (λ (u : Fields). u.begun) same;
    elsewhere = λ b apart. ap (λ (u : Fields). slice_get u.states b) same;
  }

  module _ (x y : ActivityState) (changes : ChangesState a x y f f') (begun : f.begun ≡ true)
      (scopes : (j : ℕ) (item : List Part) → open_inside ts (graph_in ts activity.work) (scope_of y j) item ≡ open_inside ts (graph_in ts activity.work) (scope_of x j) item) where
    -- no item becomes open
    pub quietly : ((j : ℕ) → open_item y j ≡ open_item x j) → after.ready ≡ before.ready → Result
    quietly same told = record {
      news = [];
      moves = one_moves ts g a activity is x y f f' changes named begun clock [] None scopes (λ n m q at at'. absurd (none-some q at)) (λ n q at. absurd (none-some q at)) (λ q none. absurd (none-some q none))
          (λ j new old. same j);
      ready = told ∙ sym (append-nil before.ready);
      begun = changes.begun;
      elsewhere = state_elsewhere ts g a activity is x y f f' changes;
    }

    -- one does
    pub with_one : (c : ℕ) → HasOpened clock (open_item x c) (open_item y c) → ((j : ℕ) → j ≢ c → open_item y j ≡ open_item x j)
        → after.ready ≡ before.ready ++ below path (part activity.name c) ∷ [] → Result
    with_one c comes others told = record {
      news = part activity.name c ∷ [];
      moves = one_moves ts g a activity is x y f f' changes named begun clock (part activity.name c ∷ []) None scopes once opens (λ q none. absurd (none-some q none))
          (λ j new old. others j (λ same. new 0 (ap (λ m. Some (part activity.name m)) (sym same))));
      ready = told;
      begun = changes.begun;
      elsewhere = state_elsewhere ts g a activity is x y f f' changes;
    }
      where
        once : (n m : ℕ) (q : Part) → slice_get (part activity.name c ∷ []) n ≡ Some q → slice_get (part activity.name c ∷ []) m ≡ Some q → n ≡ m
        once zero zero q at at' = refl
        once zero (suc m) q at at' = absurd (none-some q at')
        once (suc n) m q at at' = absurd (none-some q at)

        opens : (n : ℕ) (q : Part) → slice_get (part activity.name c ∷ []) n ≡ Some q → (q.name ≡ activity.name) × HasOpened clock (open_item x q.attempt) (open_item y q.attempt)
        opens zero q at =
            let same : part activity.name c ≡ q = cc in
            (ap (λ (r : Part). r.name) (sym same), subst (λ (r : Part). HasOpened clock (open_item x r.attempt) (open_item y r.attempt)) same comes)
        opens (suc n) q at = absurd (none-some q at)

  -- ---- one more scope

  module _ (h : Graph) (runs : graph_in ts activity.work ≡ Some h) (input : Container) where
    -- nothing is open in the new one
    grown : (t : ScopeState) → IsFresh h input t → (ss : List ScopeState) (i : ℕ) (item : List Part) → open_inside ts (Some h) (slice_get (ss ++ t ∷ []) i) item ≡ open_inside ts (Some h) (slice_get ss i) item
    grown t fresh [] zero item = fresh_none ts h input t fresh item
    grown t fresh [] (suc i) item = refl
    grown t fresh (s ∷ ss) zero item = refl
    grown t fresh (s ∷ ss) (suc i) item = grown t fresh ss i item

    pub grows : (x : ActivityState) → slice_get f.states a ≡ Some x → f.begun ≡ true → BeginsNext h input path a activity x f f' before after → Result
    grows x there begun next = by x next.state there next.grows next.scope (ap (λ (t : Told). t.ready) next.tells)
      where
        by : (x state : ActivityState) → slice_get f.states a ≡ Some x → GrowsState next.next x state → f' ≡ with_state a state f → after.ready ≡ before.ready → Result
        by (Program p) state there same scope told =
            quietly (Program p) state (record { begun = ap (λ (u : Fields). u.begun) scope; was = there; states = ap (λ (u : Fields). u.states) scope }) begun
            (λ j item. ap (λ z. open_inside ts (graph_in ts activity.work) (scope_of z j) item) same) (λ j. ap (λ z. open_item z j) same) told
        by (Nested n) (Program p) there wrong scope told = absurd wrong
        by (Nested n) (Nested n') there more scope told =
            quietly (Nested n) (Nested n') (record { begun = ap (λ (u : Fields). u.begun) scope; was = there; states = ap (λ (u : Fields). u.states) scope }) begun
            (λ j item. rw runs (stay (attempt_place j) item)) (λ j. refl) told
          where
            stay : (o : Option ℕ) (item : List Part) → open_inside ts (Some h) (option_and_then (slice_get (out-NestedState n').scopes.items) o) item ≡ open_inside ts (Some h) (option_and_then (slice_get (out-NestedState n).scopes.items) o) item
            stay None item = refl
            stay (Some i) item = ap (λ ss. open_inside ts (Some h) (slice_get ss i) item) more.scopes ∙ grown next.next next.fresh (out-NestedState n).scopes.items i item

  -- ---- an activity is decided

  -- an attempt of a program activity that has none is its first
  pub first_others : (j : ℕ) → j ≢ 1 → open_attempt (opened [] Nobody 0 clock) j ≡ None
  first_others j apart = ap (λ b. cond b (Some (opened [] Nobody 0 clock)) None) (opens_next Nobody 1 j ∙ by (1 == j) refl)
    where
      by : (b : Bool) → (1 == j) ≡ b → b ≡ false
      by false same = refl
      by true same = absurd (apart (sym (eqb_one 1 j same)))

  dead_items : (x : ActivityState) (j : ℕ) → open_item (dead_state x) j ≡ open_item x j
  dead_items (Program waiting) j = refl
  dead_items (Program dead) j = refl
  dead_items (Program (opened cs hold takes since)) j = refl
  dead_items (Program (finished cs)) j = refl
  dead_items (Nested n) j = refl

  dead_scopes : (x : ActivityState) (j : ℕ) → scope_of (dead_state x) j ≡ scope_of x j
  dead_scopes (Program p) j = refl
  dead_scopes (Nested n) j = staged_scopes stages.Dead n j

  opens : (x : ActivityState) → slice_get f.states a ≡ Some x → IsIdle x → f.begun ≡ true → Opens ts g path clock a activity (Some x) f f' before after → Result
  opens (Program p) there idle begun is_open =
      with_one (Program p) (Program (made_ready p clock)) (record { begun = ap (λ (u : Fields). u.begun) is_open.0; was = there; states = ap (λ (u : Fields). u.states) is_open.0 }) begun (λ j item. refl) 1
      (subst (λ z. HasOpened clock (open_attempt z 1) (open_attempt (made_ready z clock) 1)) (sym idle) (record { was = refl; state = opened [] Nobody 0 clock; is = refl; free = refl; since = refl }))
      (λ j apart. subst (λ z. open_attempt (made_ready z clock) j ≡ open_attempt z j) (sym idle) (first_others j apart))
      (ap (λ (t : Told). t.ready) is_open.1)
  opens (Nested n) there idle begun is_open = by (graph_in ts activity.work) refl is_open
    where
      by : (o : Option Graph) → graph_in ts activity.work ≡ o → Begins o (base_of g activity a f.input (ends_of f.ends)) path a activity (Nested n) f f' before after → Result
      by None none same = stays_so same.0 (ap (λ (t : Told). t.ready) same.1)
      by (Some h) runs next = grows h runs (base_of g activity a f.input (ends_of f.ends)) (Nested n) there begun next

  pub decided : (o : Option Bool) (x : ActivityState) → slice_get f.states a ≡ Some x → IsIdle x → f.begun ≡ true → Decides ts g path clock a activity o f f' before after → Result
  decided None x there idle begun decides = stays_so decides.0 (ap (λ (t : Told). t.ready) decides.1)
  decided (Some true) x there idle begun decides = opens x there idle begun (subst (λ o. Opens ts g path clock a activity o f f' before after) there decides)
  decided (Some false) x there idle begun decides =
      let new : f' ≡ settled a end.Dead (with_state a (dead_state x) f) = decides.0 ∙ ap (λ o. settled a end.Dead (changed_at dead_state a o f)) there in
      quietly x (dead_state x) (record { begun = ap (λ (u : Fields). u.begun) new; was = there; states = ap (λ (u : Fields). u.states) new }) begun
      (λ j item. ap (λ o. open_inside ts (graph_in ts activity.work) o item) (dead_scopes x j)) (dead_items x) (ap (λ (t : Told). t.ready) decides.1)
