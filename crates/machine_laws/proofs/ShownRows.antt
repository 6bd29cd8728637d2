-- The rows of a view are those of the scopes that show it.
use Rattle.std.proofs.Common.{◌≡◌, ℕ, zero, suc, ◌+◌, Bool, if◌then◌else◌, List, [], ◌∷◌, ◌++◌, map}
use Rattle.std.proofs.Common.{length, Option, Some, None, option_and_then, flat_map, refl, sym, ap, ap₂, ◌∙◌}
use Rattle.std.proofs.Common.{arith}
use Rattle.std.specs.Prelude.{slice_get}
use Rattle.std.specs.Option.{option_map_or}
use Rattle.flow_model.specs.Rows.{below}
use Rattle.flow_model.specs.ScopeContainers.{graph_in, up_to}
use Rattle.flow_model.specs.Scopes.{Known, at, part, Start, output, scope_ends, tree_ends}
use Rattle.flow_model.specs.declared.graphs.Activity.{Activity}
use Rattle.flow_model.specs.declared.graphs.Container.{Container}
use Rattle.flow_model.specs.declared.graphs.Graph.{Graph, out-Graph}
use Rattle.flow_model.specs.declared.graphs.Template.{Template}
use Rattle.flow_model.specs.declared.instances.Fate.{Fate}
use Rattle.flow_model.specs.declared.instances.Fate.TheVariants.{Waiting}
use Rattle.flow_model.specs.declared.instances.FateRow.{FateRow}
use Rattle.flow_model.specs.declared.instances.Path.{Path}
use Rattle.machine.specs.Rows.{Scopes, inside}
use Rattle.machine.specs.Answers as a
use Rattle.machine_scopes.specs.Seen.{stage_of, standing_of, row_of, scopes_of}
use Rattle.machine_scopes.proofs.Inside.{read_inside}
use Rattle.machine_scopes.proofs.Lists.{map_read, present, within}
use Rattle.machine_scopes.proofs.Meeting.{attempt_there}
use Rattle.navigator.proofs.Leading.{has_scopes, started_place}
use Rattle.navigator.proofs.ReadScopes.{shown_fate}
use Rattle.navigator.proofs.RowLists.{started_numbered}
use Rattle.navigator.specs.Reading.{state_fate, scope_of, inner_of}
use Rattle.navigator.specs.Steps.{fields}
use Rattle.navigator.specs.ViewRows as v
use Rattle.navigator.specs.Views.{ShowsWithin, Shows, stage_fate}
use Rattle.navigator.specs.declared.scopes.ActivityState.{ActivityState, Program, Nested}
use Rattle.navigator.specs.declared.scopes.NestedStage.{NestedStage}
use Rattle.navigator.specs.declared.scopes.NestedStage.TheVariants as stages
use Rattle.navigator.specs.declared.scopes.NestedState.{out-NestedState}
use Rattle.navigator.specs.declared.scopes.ScopeState.{ScopeState}
use Rattle.view_laws.specs.Coming.{started_in}

same_flat : {X Y : Type 0} (f g : X → List Y) (xs : List X) → ((x : X) → f x ≡ g x) → flat_map f xs ≡ flat_map g xs
same_flat f g [] same = refl
same_flat f g (x ∷ xs) same = ap₂ (λ us ws. us ++ ws) (same x) (same_flat f g xs same)

numbered_flat : {X Y : Type 0} (f : X → List Y) (g : ℕ → List Y) (xs : List X) (k : ℕ)
    → ((i : ℕ) (x : X) → slice_get xs i ≡ Some x → f x ≡ g (k + i)) → flat_map f xs ≡ flat_map g (up_to (length xs) k)
numbered_flat f g [] k same = refl
numbered_flat f g (x ∷ xs) k same =
    ap₂ (λ us ws. us ++ ws) (same zero x refl ∙ ap g (let e : k + 0 ≡ k = omega arith in e))
    (numbered_flat f g xs (k + 1) (λ i y at. same (suc i) y at
    ∙ ap g (let e : k + suc i ≡ k + 1 + i = omega arith in e)))

none_flat : {X Y : Type 0} (f : X → List Y) (xs : List X) → ((x : X) → f x ≡ []) → flat_map f xs ≡ []
none_flat f [] none = refl
none_flat f (x ∷ xs) none = ap₂ (λ us ws. us ++ ws) (none x) (none_flat f xs none)

stage_so : (stage : NestedStage) (n : ℕ) → a.stage_fate (stage_of stage) n ≡ stage_fate stage n
stage_so stages.Waiting n = refl
stage_so stages.Running n = refl
stage_so stages.Finished n = refl
stage_so stages.Dead n = refl

fate_so : (state : ActivityState) → a.standing_fate (standing_of state) ≡ state_fate state
fate_so (Program p) = refl
fate_so (Nested n) = stage_so (out-NestedState n).stage (length (out-NestedState n).scopes.items)

if_same : (b c : Bool) (us ws : List FateRow) → b ≡ c → us ≡ ws → (if b then us else []) ≡ (if c then ws else [])
if_same b c us ws same rows = ap₂ (λ x (xs : List FateRow). if x then xs else []) same rows

begun_of : (ts : List Template) (depth : ℕ) (k : Known) (h : Graph) (input : Container) (s : ScopeState)
    → ShowsWithin ts depth k h input s → (fields s).begun ≡ k.begun []
begun_of ts zero k h input s shows = absurd shows
begun_of ts (suc depth) k h input s shows = shows.begun

module _ (ts : List Template) (depth : ℕ) (below_so : (k : Known) (h : Graph) (input : Container) (s : ScopeState)
    (path : Path) → ShowsWithin ts depth k h input s
    → v.rows_within ts depth k h input s path ≡ a.rows_within ts depth h (scopes_of s) path)
    (k : Known) (g : Graph) (input : Container) (s : ScopeState) (path : Path) (shows : Shows ts depth k g input s)
    (place : ℕ) (activity : Activity) (there : slice_get (out-Graph g).activities place ≡ Some activity) where
  one_attempt : (h : Graph) (i : ℕ) (start : Start) → graph_in ts activity.work ≡ Some h
      → slice_get (started_in ts depth k g input place activity) i ≡ Some start
      → v.attempt_rows (v.rows_within ts depth) k activity (Some h) (inner_of s place start.attempt) path start
      ≡ a.begun_rows (a.rows_within ts depth) h (inside place i (scopes_of s))
      (below path (part activity.name (i + 1))) (scopes_of s ((place, i) ∷ []))
  one_attempt h i start runs started =
      let scope = attempt_there ts depth k g input s shows place activity there h i start runs started in
      let number : start.attempt ≡ i + 1 = started_numbered ts k (output ts depth) g input (tree_ends ts depth k g
      input) place activity i start started in
      let counted = started_place ts k (output ts depth) g input
      (tree_ends ts depth k g input) place activity i start started in
      let has : inner_of s place start.attempt
      ≡ Some scope.1 = ap (option_and_then (λ state. scope_of state start.attempt)) scope.2
      ∙ ap (option_and_then (slice_get (out-NestedState scope.0).scopes.items)) counted ∙ scope.3 in
      let row : scopes_of s ((place, i) ∷ [])
      ≡ Some (row_of (fields scope.1)) = ap (λ (u : Scopes). u [])
      (read_inside s place i scope.0 scope.1 scope.2 scope.3) in
      ap (λ o. v.attempt_rows (v.rows_within ts depth) k activity (Some h) o path start) has
      ∙ if_same (k.begun (part activity.name start.attempt ∷ [])) (fields scope.1).begun _ _
      (sym (begun_of ts depth (at (part activity.name start.attempt) k) h start.input scope.1 scope.4))
      (below_so (at (part activity.name start.attempt) k) h start.input scope.1
      (below path (part activity.name start.attempt)) scope.4
      ∙ ap₂ (λ u j. a.rows_within ts depth h u (below path (part activity.name j)))
      (sym (read_inside s place i scope.0 scope.1 scope.2 scope.3)) number)
      ∙ sym (ap (a.begun_rows (a.rows_within ts depth) h (inside place i (scopes_of s))
      (below path (part activity.name (i + 1)))) row)

  -- the rows of its attempts
  inner_so : (o : Option Graph) → graph_in ts activity.work ≡ o → (state : ActivityState)
      → slice_get (fields s).states place ≡ Some state
      → flat_map (λ start. v.attempt_rows (v.rows_within ts depth) k activity o
      (inner_of s place start.attempt) path start) (started_in ts depth k g input place activity)
      ≡ a.inner_rows (a.rows_within ts depth) path activity place (scopes_of s) o (standing_of state)
  inner_so None runs state at =
      none_flat (λ start. v.attempt_rows (v.rows_within ts depth) k activity None
      (inner_of s place start.attempt) path start) (started_in ts depth k g input place activity) (λ start. refl)
  inner_so (Some h) runs state at =
      let has = has_scopes ts activity.work h _ _ _ _ state runs (shows.states place activity state there at) in
      let G = λ (i : ℕ). a.begun_rows (a.rows_within ts depth) h (inside place i (scopes_of s))
      (below path (part activity.name (i + 1))) (scopes_of s ((place, i) ∷ [])) in
      numbered_flat (λ start. v.attempt_rows (v.rows_within ts depth) k activity (Some h)
      (inner_of s place start.attempt) path start) G (started_in ts depth k g input place activity) 0
      (λ i start started. one_attempt h i start runs started ∙ ap G (let e : i ≡ 0 + i = omega arith in e))
      ∙ ap (λ n. flat_map G (up_to n 0)) (sym has.shown.count)
      ∙ sym (ap (λ st. a.inner_rows (a.rows_within ts depth) path activity place (scopes_of s) (Some h)
      (standing_of st)) has.is)

  -- its row and those below it
  activity_so : (state : ActivityState) → slice_get (fields s).states place ≡ Some state
      → v.activity_rows ts (output ts depth) (v.rows_within ts depth) k g input
      (scope_ends ts k (output ts depth) g input) s path place (Some activity)
      ≡ a.place_rows ts (a.rows_within ts depth) path (scopes_of s) place (Some activity) (Some (standing_of state))
  activity_so state at =
      ap₂ (λ (f : Fate) (xs : List FateRow). record { scope = path; name = activity.name; fate = f } ∷ xs)
      (sym (shown_fate ts depth k g input s shows place) ∙ ap (λ o. option_map_or state_fate o Waiting) at
      ∙ sym (fate_so state))
      (inner_so (graph_in ts activity.work) refl state at)

module _ (ts : List Template) (depth : ℕ) (k : Known) (g : Graph) (input : Container) (s : ScopeState) (path : Path)
    (shows : Shows ts depth k g input s)
    (below_so : (k : Known) (h : Graph) (input : Container) (s : ScopeState) (path : Path)
    → ShowsWithin ts depth k h input s → v.rows_within ts depth k h input s path
    ≡ a.rows_within ts depth h (scopes_of s) path) where
  each : (place : ℕ) (o : Option Activity) → slice_get (out-Graph g).activities place ≡ o
      → v.activity_rows ts (output ts depth) (v.rows_within ts depth) k g input
      (scope_ends ts k (output ts depth) g input) s path place o
      ≡ a.place_rows ts (a.rows_within ts depth) path (scopes_of s) place o
      (slice_get (map standing_of (fields s).states) place)
  each place None there = refl
  each place (Some activity) there =
      let less = within (out-Graph g).activities place activity there in
      let state = present (fields s).states place (omega (arith, shows.stated, less)) in
      activity_so ts depth below_so k g input s path shows place activity there state.0 state.1
      ∙ ap (a.place_rows ts (a.rows_within ts depth) path (scopes_of s) place (Some activity))
      (sym (map_read standing_of (fields s).states place state.0 state.1))

-- the rows of a view are those of the scopes of a state that shows it
pub shown_rows : (ts : List Template) (n : ℕ) (k : Known) (h : Graph) (input : Container) (s : ScopeState)
    (path : Path) → ShowsWithin ts n k h input s
    → v.rows_within ts n k h input s path ≡ a.rows_within ts n h (scopes_of s) path
shown_rows ts zero k g input s path shows = absurd shows
shown_rows ts (suc depth) k g input s path shows =
    same_flat
    (λ place. v.activity_rows ts (output ts depth) (v.rows_within ts depth) k g input
    (scope_ends ts k (output ts depth) g input) s path place (slice_get (out-Graph g).activities place))
    (λ place. a.place_rows ts (a.rows_within ts depth) path (scopes_of s) place
    (slice_get (out-Graph g).activities place) (slice_get (map standing_of (fields s).states) place))
    (up_to (length (out-Graph g).activities) 0)
    (λ place. each ts depth k g input s path shows (λ l h i t p is. shown_rows ts depth l h i t p is) place
    (slice_get (out-Graph g).activities place) refl)
