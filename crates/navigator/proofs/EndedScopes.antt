-- A block or process activity when the scope of its last attempt ends: what that scope gives, what the END does, and what the state shows then.
use Rattle.std.proofs.Common.{◌≡◌, ℕ, zero, suc, ◌+◌, ◌^◌, ◌<◌, Bool, true, false, List, [], ◌∷◌, ◌++◌, length, Some, None, cond, refl, ap, sym, ◌∙◌, subst, arith, append-nil, length-append}
use Rattle.std.specs.Prelude.{slice_get, slice_set}
use Rattle.std.proofs.Math.Path.{fun_ext}
use Rattle.blocks_subprocs.specs.Ends.{ends_of}
use Rattle.flow_model.specs.Containers.{fresh, with_return_code}
use Rattle.flow_model.specs.Fates.{Ends, goes_on}
use Rattle.flow_model.specs.ScopeContainers.{base_of, fed, graph_in, is_complete, looped, output_by}
use Rattle.flow_model.specs.Scopes.{Known, at, part, Runs, Start, scope_gives, gives, scope_ends, output}
use Rattle.flow_model.specs.Wiring.{IsIncoming, IsSinking}
use Rattle.flow_model.specs.declared.graphs.Activity.{Activity}
use Rattle.flow_model.specs.declared.graphs.Container.{Container}
use Rattle.flow_model.specs.declared.graphs.Graph.{Graph, out-Graph}
use Rattle.flow_model.specs.declared.graphs.MapEnd.TheVariants.{Border}
use Rattle.flow_model.specs.declared.graphs.Template.{Template}
use Rattle.flow_model.specs.declared.graphs.Work.{Work, Program as RunsProgram, Block, Process}
use Rattle.flow_model.specs.declared.instances.Fate.{Fate}
use Rattle.flow_model.specs.declared.instances.Fate.TheVariants.{Running, Finished}
use Rattle.flow_model.specs.declared.instances.Path.{Path}
use Rattle.flow_model.specs.declared.instances.SourceEnd.TheVariants as end
use Rattle.flow_model.specs.declared.names.Name.{Name}
use Rattle.navigator.proofs.OneActivity.{still_open, ChangesOne}
use Rattle.navigator.proofs.ShownAgain.{IsSameInside, inside_scope, ends_as_before}
use Rattle.navigator.proofs.Untouched.{fresh_shows}
use Rattle.navigator.specs.Fresh.{IsFresh}
use Rattle.navigator.specs.Serving.{Served}
use Rattle.navigator.specs.Steps.{Told, Fields, settled, finished_state, changed_at, at_stage, GrowsState, Grows, EndsBy, given_by}
use Rattle.navigator.specs.Views.{ShowsStart, ShowsNested, ShowsWork, ShowsWithin}
use Rattle.navigator.specs.declared.scopes.ActivityState.{ActivityState, Program, Nested}
use Rattle.navigator.specs.declared.scopes.NestedStage.TheVariants as stages
use Rattle.navigator.specs.declared.scopes.NestedState.{NestedState, out-NestedState, out-roll-NestedState}
use Rattle.navigator.specs.declared.scopes.ScopeState.{ScopeState, out-ScopeState}
use Rattle.view_laws.specs.Coming.{IsUntouched}

no_graph : {h : Graph} → None ≡ Some h → ⊥
no_graph never = cc

-- ---- an activity that runs a graph

module _ (ts : List Template) (h : Graph) where
  -- its state has scopes
  pub nested_state : (w : Work) (fate : Fate) (outs : List Container) (starts : List Start) (shows : ShowsStart) (state : ActivityState) → graph_in ts w ≡ Some h
      → ShowsWork w fate outs starts shows state → (n : NestedState) × (state ≡ Nested n) × ShowsNested fate starts shows n
  nested_state (RunsProgram w) fate outs starts shows state of is = absurd (no_graph of)
  nested_state (Block g) fate outs starts shows (Program p) of is = absurd is
  nested_state (Block g) fate outs starts shows (Nested n) of is = (n, refl, is)
  nested_state (Process t) fate outs starts shows (Program p) of is = absurd is
  nested_state (Process t) fate outs starts shows (Nested n) of is = (n, refl, is)

  -- and shows what they show
  pub nested_work : (w : Work) (fate : Fate) (outs : List Container) (starts : List Start) (shows : ShowsStart) (n : NestedState) → graph_in ts w ≡ Some h
      → ShowsNested fate starts shows n → ShowsWork w fate outs starts shows (Nested n)
  nested_work (RunsProgram w) fate outs starts shows n of is = absurd (no_graph of)
  nested_work (Block g) fate outs starts shows n of is = is
  nested_work (Process t) fate outs starts shows n of is = is

  runs_on : (w : Work) (c : ℕ) → graph_in ts w ≡ Some h → goes_on w c ≡ Running c
  runs_on (RunsProgram w) c of = absurd (no_graph of)
  runs_on (Block g) c of = refl
  runs_on (Process t) c of = refl

  -- its attempts give what their scopes give
  pub gives_scope : (k : Known) (runs : Runs) (name : Name) (w : Work) (j : ℕ) (i : Container) → graph_in ts w ≡ Some h
      → gives ts k runs name w j i ≡ scope_gives k runs (Some h) (part name j) i
  gives_scope k runs name (RunsProgram w) j i of = absurd (no_graph of)
  gives_scope k runs name (Block g) j i of = ap (λ o. scope_gives k runs o (part name j) i) of
  gives_scope k runs name (Process t) j i of = ap (λ o. scope_gives k runs o (part name j) i) of

-- ---- the result of its state

-- it is finished, or has one more scope
abbrev pub NestedAfter : Bool → Graph → Container → NestedState → NestedState → Type 0
NestedAfter true h i n n' = ((out-NestedState n').stage ≡ stages.Finished) × ((out-NestedState n').scopes.items ≡ (out-NestedState n).scopes.items)
NestedAfter false h i n n' = (next : ScopeState) × IsFresh h i next × Grows next n n'

-- two lists of one length, each one longer
pairs_push : {X Y : Type 0} (P : X → Y → Type 0) (xs : List X) (ys : List Y) (x : X) (y : Y) → length ys ≡ length xs
    → ((i : ℕ) (v : X) (w : Y) → slice_get xs i ≡ Some v → slice_get ys i ≡ Some w → P v w) → P x y
    → (i : ℕ) (v : X) (w : Y) → slice_get (xs ++ x ∷ []) i ≡ Some v → slice_get (ys ++ y ∷ []) i ≡ Some w → P v w
pairs_push P [] [] x y long before last zero v w at there =
    let one : x ≡ v = cc in
    let two : y ≡ w = cc in
    subst (λ z. P v z) two (subst (λ z. P z y) one last)
pairs_push P [] [] x y long before last (suc i) v w at there = let never : None ≡ Some v = at in absurd (no_more never)
  where
    no_more : None ≡ Some v → ⊥
    no_more h = cc
pairs_push P [] (z ∷ ys) x y long before last i v w at there = absurd (omega arith)
pairs_push P (z ∷ xs) [] x y long before last i v w at there = absurd (omega arith)
pairs_push P (u ∷ xs) (z ∷ ys) x y long before last zero v w at there = before zero v w at there
pairs_push P (u ∷ xs) (z ∷ ys) x y long before last (suc i) v w at there =
    let same : length ys ≡ length xs = omega arith in
    pairs_push P xs ys x y same (λ j v' w' at' there'. before (suc j) v' w' at' there') last i v w at there

-- it shows the attempts that start then
pub nested_after : (b : Bool) (ts : List Template) (h : Graph) (w : Work) (c : ℕ) (i : Container) (fate : Fate) (starts : List Start) (shows shows' : ShowsStart) (n n' : NestedState)
    → graph_in ts w ≡ Some h → length starts ≡ c
    → ((start : Start) (s : ScopeState) → shows start s → shows' start s)
    → ((next : ScopeState) → IsFresh h i next → shows' (record { attempt = c + 1; input = i }) next)
    → ShowsNested fate starts shows n → NestedAfter b h i n n'
    → ShowsNested (cond b (Finished c) (goes_on w (c + 1))) (starts ++ cond b [] (record { attempt = c + 1; input = i } ∷ [])) shows' n'
nested_after true ts h w c i fate starts shows shows' n n' of long more first is after =
    let same = after.1 in
    let count : length (out-NestedState n').scopes.items ≡ length starts = ap length same ∙ is.count in
    subst (λ ss. ShowsNested (Finished c) ss shows' n') (sym (append-nil starts)) (record {
      stands = rw (after.0, count) (ap Finished long);
      count = count;
      scopes = λ j start s at there. more start s (is.scopes j start s at (ap (λ xs. slice_get xs j) (sym same) ∙ there));
    })
nested_after false ts h w c i fate starts shows shows' n n' of long more first is after =
    let next = after.0 in
    let grows = after.2 in
    let start : Start = record { attempt = c + 1; input = i } in
    let one = length-append (out-NestedState n).scopes.items (next ∷ []) in
    let two = length-append starts (start ∷ []) in
    let count = is.count in
    let scopes : length (out-NestedState n').scopes.items ≡ c + 1 = ap length grows.scopes ∙ omega (arith, one, count, long) in
    record {
      stands = rw (grows.stage, scopes) (sym (runs_on ts h w (c + 1) of));
      count = scopes ∙ omega (arith, two, long);
      scopes = λ j v s at there.
          pairs_push shows' starts (out-NestedState n).scopes.items start next count (λ j' v' s' at' there'. more v' s' (is.scopes j' v' s' at' there')) (first next after.1) j v s at
          (ap (λ xs. slice_get xs j) (sym grows.scopes) ∙ there);
    }

-- ---- what an END does to the scope

-- the activity at a place is finished, or has one more scope
pub record EndsOne (b : Bool) (h : Graph) (i : Container) (a : ℕ) (n : NestedState) (out : Container) (old new : Fields) : Type 0 where
  pub nested : NestedState
  pub changes : ChangesOne a (Nested nested) (cond b (end.Finished out) end.Unsettled) old new
  pub comes : NestedAfter b h i n nested

begins_one : (h : Graph) (i : Container) (a : ℕ) (n : NestedState) (out : Container) (next : ScopeState) (state : ActivityState) (old new : Fields) → ends_of old.ends a ≡ end.Unsettled
    → IsFresh h i next → GrowsState next (Nested n) state → new ≡ record old { states = slice_set old.states a state } → EndsOne false h i a n out old new
begins_one h i a n out next (Program p) old new was fresh grows is = absurd grows
begins_one h i a n out next (Nested n') old new was fresh grows is = record {
  nested = n';
  changes = record {
    begun = ap (λ (f : Fields). f.begun) is;
    input = ap (λ (f : Fields). f.input) is;
    tallies = ap (λ (f : Fields). f.tallies) is;
    ends = ap (λ (f : Fields). f.ends) is ∙ still_open old.ends a was;
    states = ap (λ (f : Fields). f.states) is;
    unsettled = let same : new.unsettled ≡ old.unsettled = ap (λ (f : Fields). f.unsettled) is in omega arith;
  };
  comes = (next, fresh, grows);
}

pub ends_one : (b : Bool) (g h : Graph) (path : Path) (a : ℕ) (activity : Activity) (n : NestedState) (out : Container) (old new : Fields) (before after : Told)
    → ends_of old.ends a ≡ end.Unsettled → slice_get old.states a ≡ Some (Nested n) → EndsBy b g h path a activity (Nested n) out old new before after
    → EndsOne b h (looped (out-Graph g).loops a out (base_of g activity a old.input (ends_of old.ends))) a n out old new
ends_one true g h path a activity n out old new before after was at is =
    let now : new ≡ settled a (end.Finished out) (changed_at finished_state a (Some (Nested n)) old)
    = is.0 ∙ ap (λ o. settled a (end.Finished out) (changed_at finished_state a o old)) at in
    record {
      nested = at_stage stages.Finished n;
      changes = record {
        begun = ap (λ (f : Fields). f.begun) now;
        input = ap (λ (f : Fields). f.input) now;
        tallies = ap (λ (f : Fields). f.tallies) now;
        ends = ap (λ (f : Fields). f.ends) now;
        states = ap (λ (f : Fields). f.states) now;
        unsettled = ap (λ (f : Fields). f.unsettled) now;
      };
      comes = (rw out-roll-NestedState refl, rw out-roll-NestedState refl);
    }
ends_one false g h path a activity n out old new before after was at is =
    begins_one h (looped (out-Graph g).loops a out (base_of g activity a old.input (ends_of old.ends))) a n out is.next is.state old new was is.fresh is.grows is.scope

-- ---- the scopes one level further in

-- what a graph has that is served at any depth
pub record HasRows (g : Graph) : Type 0 where
  pub incoming : IsIncoming g
  pub sinking : IsSinking g
  pub few : length (out-Graph g).controls < 2 ^ 32

rows_of : (ts : List Template) (depth : ℕ) (g : Graph) → Served ts depth g → HasRows g
rows_of ts zero g served = record { incoming = served.incoming; sinking = served.sinking; few = served.few }
rows_of ts (suc depth) g served = record { incoming = served.incoming; sinking = served.sinking; few = served.few }

-- so has each graph inside
pub rows_inside : (ts : List Template) (depth : ℕ) (g : Graph) (a : ℕ) (activity : Activity) (h : Graph) → Served ts depth g → slice_get (out-Graph g).activities a ≡ Some activity
    → graph_in ts activity.work ≡ Some h → HasRows h
rows_inside ts zero g a activity h served is of = absurd (served.inside a activity h is of)
rows_inside ts (suc depth) g a activity h served is of = rows_of ts depth h (served.inside a activity h is of)

no_output : {out : Container} → None ≡ Some out → ⊥
no_output never = cc

-- the next scope shows the view before anything counts of it
pub next_shows : (ts : List Template) (depth : ℕ) (k old : Known) (h : Graph) (i was out : Container) (next : ScopeState) → output ts depth old h was ≡ Some out → IsFresh h i next → IsUntouched k
    → HasRows h → ShowsWithin ts depth k h i next
next_shows ts zero k old h i was out next complete fresh untouched rows = absurd (no_output complete)
next_shows ts (suc depth) k old h i was out next complete fresh untouched rows = fresh_shows ts depth k h i next fresh untouched rows.incoming rows.few

-- a scope that is complete gives its output by its state
pub given_is : (ts : List Template) (depth : ℕ) (k : Known) (h : Graph) (i out : Container) (s : ScopeState) → output ts depth k h i ≡ Some out → ShowsWithin ts depth k h i s
    → given_by h s ≡ with_return_code out
given_is ts zero k h i out s complete shows = absurd (no_output complete)
given_is ts (suc depth) k h i out s complete shows =
    let e : Ends = scope_ends ts k (output ts depth) h i in
    ap (λ x. with_return_code (fed (out-Graph h).lines Border x (ends_of (out-ScopeState s).ends.items) (fresh (out-Graph h).output))) shows.reads
    ∙ ap (λ f. with_return_code (fed (out-Graph h).lines Border i f (fresh (out-Graph h).output))) (fun_ext shows.ends)
    ∙ ap with_return_code (go (is_complete h e) complete)
  where
    go : (b : Bool) → cond b (Some (fed (out-Graph h).lines Border i (scope_ends ts k (output ts depth) h i) (fresh (out-Graph h).output))) None ≡ Some out
        → fed (out-Graph h).lines Border i (scope_ends ts k (output ts depth) h i) (fresh (out-Graph h).output) ≡ out
    go true is = cc
    go false is = absurd (no_output is)

-- whether a scope has told its end changes nothing of its output
pub output_inside : (ts : List Template) (depth : ℕ) (k k' : Known) (g : Graph) (i : Container) → IsSameInside k k' → output ts depth k' g i ≡ output ts depth k g i
output_inside ts zero k k' g i same = refl
output_inside ts (suc depth) k k' g i same = ap (output_by g i) (ends_as_before ts (output ts depth) k k' g i (inside_scope ts k k' (output ts depth) same))
