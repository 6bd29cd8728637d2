-- The rows that a state gives, activity by activity and attempt by attempt.
use Rattle.std.proofs.Common.{◌≡◌, ℕ, zero, suc, ◌+◌, Bool, true, false, ◌&&◌, List, [], ◌∷◌, ◌++◌, length, take, Option, Some, None, cond, refl, ap, sym, ◌∙◌, arith, append_assoc, append-nil}
use Rattle.std.specs.Prelude.{slice_get}
use Rattle.std.specs.List.{flat_map}
use Rattle.std.specs.Option.{option_map_or}
use Rattle.std.specs.Prelude.{option_and_then}
use Rattle.std.proofs.lemmas.Grind.{flat_map-append}
use Rattle.std.proofs.lemmas.List.{take_more}
use Rattle.std.proofs.lemmas.List.Concat.{flat_map-cons}
use Rattle.std.proofs.lemmas.Option.{get_or_from_slice_get, slice_get_within}
use Rattle.flow_model.specs.Conditions.{holds}
use Rattle.flow_model.specs.Fates.{Ends, is_open}
use Rattle.flow_model.specs.ScopeContainers.{graph_in, up_to, base_of}
use Rattle.flow_model.specs.Scopes.{Known, at, Runs, Gives, Trial, Start, is_fed, trial, gives, starts, then_start, fate_given, started_at, scope_ends, output}
use Rattle.flow_model.specs.declared.graphs.Activity.{Activity}
use Rattle.flow_model.specs.declared.graphs.Container.{Container}
use Rattle.flow_model.specs.declared.graphs.Graph.{Graph, out-Graph}
use Rattle.flow_model.specs.declared.graphs.Template.{Template}
use Rattle.flow_model.specs.declared.graphs.Work.{Work, Program as RunsProgram, Block, Process}
use Rattle.flow_model.specs.declared.instances.Fate.{Fate}
use Rattle.flow_model.specs.declared.instances.Fate.TheVariants.{Waiting}
use Rattle.flow_model.specs.declared.instances.FateRow.{FateRow}
use Rattle.flow_model.specs.declared.instances.Path.{Path}
use Rattle.navigator.proofs.ReadScopes.{shown_fate}
use Rattle.navigator.specs.Reading.{state_fate, hold_in, with_hold, scope_of, inner_of}
use Rattle.navigator.specs.ViewRows.{ScopeRows, AreNumbered, attempt_rows, inner_rows, activity_rows, rows_within}
use Rattle.navigator.specs.Views.{ShowsStart, ShowsNested, ShowsWork, ShowsWithin, shows_attempt}
use Rattle.navigator.specs.declared.scopes.ActivityState.{ActivityState, Program, Nested}
use Rattle.navigator.specs.declared.scopes.NestedState.{NestedState, out-NestedState}
use Rattle.navigator.specs.declared.scopes.ScopeState.{ScopeState, out-ScopeState}

-- ---- lists

none_of : {X A : Type 0} (f : X → List A) (xs : List X) → ((x : X) → f x ≡ []) → flat_map f xs ≡ []
none_of f [] none = refl
none_of f (x ∷ xs) none = flat_map-cons f x xs ∙ rw (none x, none_of f xs none) refl

one_more : {X A : Type 0} (f : X → List A) (xs : List X) (x : X) → flat_map f (xs ++ x ∷ []) ≡ flat_map f xs ++ f x
one_more f xs x = flat_map-append f xs (x ∷ []) ∙ ap (λ ys. flat_map f xs ++ ys) (flat_map-cons f x [] ∙ append-nil (f x))

taken_more : {X : Type 0} (xs : List X) (i : ℕ) (x : X) → slice_get xs i ≡ Some x → take (i + 1) xs ≡ take i xs ++ x ∷ []
taken_more xs i x at = take_more xs i x (slice_get_within xs i x at) ∙ ap (λ y. take i xs ++ y ∷ []) (get_or_from_slice_get xs i x x at)

up_to_suc : (n k : ℕ) → up_to (suc n) k ≡ up_to n k ++ (n + k) ∷ []
up_to_suc zero k = let e : zero + k ≡ k = omega arith in rw e refl
up_to_suc (suc n) k = let e : n + (k + 1) ≡ suc n + k = omega arith in ap (λ xs. k ∷ xs) (up_to_suc n (k + 1) ∙ ap (λ m. up_to n (k + 1) ++ m ∷ []) e)

pub up_to_more : (n : ℕ) → up_to (n + 1) 0 ≡ up_to n 0 ++ n ∷ []
up_to_more n =
    let e : n + 1 ≡ suc n = omega arith in
    let z : n + 0 ≡ n = omega arith in
    ap (λ m. up_to m 0) e ∙ up_to_suc n 0 ∙ ap (λ m. up_to n 0 ++ m ∷ []) z

-- ---- attempts are numbered

starts_numbered : (n : ℕ) (give : Gives) (t : Trial) (j : ℕ) (input : Container) (i : ℕ) (start : Start) → slice_get (starts n give t j input) i ≡ Some start → start.attempt ≡ i + j
starts_numbered zero give t j input i start at = let never : None ≡ Some start = at in cc
starts_numbered (suc n) give t j input zero start at =
    let same : record { attempt = j; input = input } ≡ start = cc in
    let e : j ≡ zero + j = omega arith in
    ap (λ (s : Start). s.attempt) (sym same) ∙ e
starts_numbered (suc n) give t j input (suc i) start at =
    let e : i + (j + 1) ≡ suc i + j = omega arith in
    go (give j input) at (λ out there. starts_numbered n give t (j + 1) (t.loops out) i start there ∙ e)
  where
    later : (b : Bool) (ss : List Start) → (slice_get ss i ≡ Some start → start.attempt ≡ suc i + j) → slice_get (cond b [] ss) i ≡ Some start → start.attempt ≡ suc i + j
    later true ss rest none = let never : None ≡ Some start = none in cc
    later false ss rest there = rest there

    go : (o : Option Container) → slice_get (then_start t o (λ out. starts n give t (j + 1) (t.loops out))) i ≡ Some start
        → ((out : Container) → slice_get (starts n give t (j + 1) (t.loops out)) i ≡ Some start → start.attempt ≡ suc i + j) → start.attempt ≡ suc i + j
    go None none rest = let never : None ≡ Some start = none in cc
    go (Some out) there rest = later (holds t.exit out) (starts n give t (j + 1) (t.loops out)) (rest out) there

either_numbered : (b : Bool) (ss : List Start) → AreNumbered ss → AreNumbered (cond b ss [])
either_numbered true ss numbered = numbered
either_numbered false ss numbered = λ i start none. let never : None ≡ Some start = none in cc

pub started_numbered : (ts : List Template) (k : Known) (runs : Runs) (g : Graph) (input : Container) (e : Ends) (a : ℕ) (activity : Activity)
    → AreNumbered (started_at ts k runs g input e a activity)
started_numbered ts k runs g input e a activity =
    let base : Container = base_of g activity a input e in
    let give : Gives = gives ts k runs activity.name activity.work in
    either_numbered (is_open (fate_given ts k runs g input e a) && is_fed (out-Graph g).lines a e) (starts (suc k.most) give (trial g a activity base) 1 base)
    (λ i start there. starts_numbered (suc k.most) give (trial g a activity base) 1 base i start there)

-- ---- one activity

pub nested_shows : (w : Work) (fate : Fate) (outs : List Container) (starts : List Start) (shows : ShowsStart) (n : NestedState) → ShowsWork w fate outs starts shows (Nested n)
    → ShowsNested fate starts shows n
nested_shows (RunsProgram w) fate outs starts shows n is = absurd is
nested_shows (Block g) fate outs starts shows n is = is
nested_shows (Process t) fate outs starts shows n is = is

module _ (ts : List Template) (rows : ScopeRows) (k : Known) (activity : Activity) (path : Path) where
  pub none_inside : (p : _) (starts : List Start) → inner_rows ts rows k activity (Program p) path starts ≡ []
  none_inside p starts = none_of _ starts (λ start. go start (graph_in ts activity.work))
    where
      go : (start : Start) (o : Option Graph) → attempt_rows rows k activity o None path start ≡ []
      go start None = refl
      go start (Some h) = refl

  pub none_without : (state : ActivityState) (starts : List Start) → graph_in ts activity.work ≡ None → inner_rows ts rows k activity state path starts ≡ []
  none_without state starts none = none_of _ starts (λ start. ap (λ (o : Option Graph). attempt_rows rows k activity o (scope_of state start.attempt) path start) none)

  -- the rows of one more attempt
  pub inner_more : (n : NestedState) (starts : List Start) (i : ℕ) (start : Start) (h : Graph) (s : ScopeState) (attempt : ℕ) (before now after : List FateRow)
      → slice_get starts i ≡ Some start → graph_in ts activity.work ≡ Some h → slice_get (out-NestedState n).scopes.items i ≡ Some s → start.attempt ≡ i + 1 → attempt ≡ i + 1
      → now ≡ before ++ inner_rows ts rows k activity (Nested n) path (take i starts)
      → after ≡ now ++ attempt_rows rows k activity (Some h) (Some s) path (record { attempt = attempt; input = start.input })
      → after ≡ before ++ inner_rows ts rows k activity (Nested n) path (take (i + 1) starts)
  inner_more n starts i start h s attempt before now after at runs there numbered same so more =
      let f = λ (x : Start). attempt_rows rows k activity (graph_in ts activity.work) (scope_of (Nested n) x.attempt) path x in
      let suc_i : i + 1 ≡ suc i = omega arith in
      let scope : scope_of (Nested n) start.attempt ≡ Some s = rw (numbered, suc_i) there in
      let last : f start ≡ attempt_rows rows k activity (Some h) (Some s) path start = rw (runs, scope) refl in
      let named : attempt ≡ start.attempt = same ∙ sym numbered in
      let given : attempt_rows rows k activity (Some h) (Some s) path (record { attempt = attempt; input = start.input }) ≡ f start
      = ap (λ (j : ℕ). attempt_rows rows k activity (Some h) (Some s) path (record { attempt = j; input = start.input })) named ∙ sym last in
      more ∙ ap (λ xs. now ++ xs) given ∙ ap (λ xs. xs ++ f start) so ∙ append_assoc before (flat_map f (take i starts)) (f start)
      ∙ ap (λ xs. before ++ xs) (sym (ap (flat_map f) (taken_more starts i start at) ∙ one_more f (take i starts) start))

-- ---- one scope

-- the rows of the first activities
abbrev pub first_rows : List Template → ℕ → Known → Graph → Container → ScopeState → Path → ℕ → List FateRow
first_rows ts zero k g input s path n = []
first_rows ts (suc depth) k g input s path n =
    flat_map
    (λ a. activity_rows ts (output ts depth) (rows_within ts depth) k g input (scope_ends ts k (output ts depth) g input) s path a (slice_get (out-Graph g).activities a))
    (up_to n 0)

pub no_first : (ts : List Template) (n : ℕ) (k : Known) (g : Graph) (input : Container) (s : ScopeState) (path : Path) → first_rows ts n k g input s path 0 ≡ []
no_first ts zero k g input s path = refl
no_first ts (suc depth) k g input s path = refl

pub all_first : (ts : List Template) (n : ℕ) (k : Known) (g : Graph) (input : Container) (s : ScopeState) (path : Path)
    → first_rows ts n k g input s path (length (out-Graph g).activities) ≡ rows_within ts n k g input s path
all_first ts zero k g input s path = refl
all_first ts (suc depth) k g input s path = refl

-- the rows of one more activity, by what its state adds
pub first_more : (ts : List Template) (n : ℕ) (k : Known) (g : Graph) (input : Container) (s : ScopeState) (path : Path) (a : ℕ) (activity : Activity) (state : ActivityState) (before now after : List FateRow)
    → ShowsWithin ts n k g input s → slice_get (out-Graph g).activities a ≡ Some activity → slice_get (out-ScopeState s).states.items a ≡ Some state
    → now ≡ before ++ first_rows ts n k g input s path a
    → ((m : ℕ) (l : Known) (fate : Fate) (outs : List Container) (starts : List Start) → AreNumbered starts
    → ShowsWork activity.work fate outs starts (shows_attempt (ShowsWithin ts m) l activity.name (graph_in ts activity.work)) state
    → after ≡ now ++ record { scope = path; name = activity.name; fate = state_fate state } ∷ inner_rows ts (rows_within ts m) l activity state path starts)
    → after ≡ before ++ first_rows ts n k g input s path (a + 1)
first_more ts zero k g input s path a activity state before now after shows at there so adds = absurd shows
first_more ts (suc depth) k g input s path a activity state before now after shows at there so adds =
    let runs : Runs = output ts depth in
    let e : Ends = scope_ends ts k runs g input in
    let rows : ScopeRows = rows_within ts depth in
    let f = λ (b : ℕ). activity_rows ts runs rows k g input e s path b (slice_get (out-Graph g).activities b) in
    let starts = started_at ts k runs g input e a activity in
    let added = adds depth k _ _ starts (started_numbered ts k runs g input e a activity) (shows.states a activity state at there) in
    let fate : state_fate state ≡ with_hold (hold_in s a) (fate_given ts k runs g input e a)
    = sym (ap (λ (o : Option ActivityState). option_map_or state_fate o Waiting) there) ∙ shown_fate ts depth k g input s shows a in
    let row : f a ≡ record { scope = path; name = activity.name; fate = state_fate state } ∷ inner_rows ts rows k activity state path starts
    = ap (activity_rows ts runs rows k g input e s path a) at
    ∙ ap (λ (x : Fate). record { scope = path; name = activity.name; fate = x }
    ∷ flat_map (λ start. attempt_rows rows k activity (graph_in ts activity.work) (inner_of s a start.attempt) path start) starts) (sym fate)
    ∙ ap (λ (o : Option ActivityState). record { scope = path; name = activity.name; fate = state_fate state }
    ∷ flat_map (λ start. attempt_rows rows k activity (graph_in ts activity.work) (option_and_then (λ st. scope_of st start.attempt) o) path start) starts) there in
    added ∙ ap (λ xs. now ++ xs) (sym row) ∙ ap (λ xs. xs ++ f a) so ∙ append_assoc before (flat_map f (up_to a 0)) (f a)
    ∙ ap (λ xs. before ++ xs) (sym (ap (flat_map f) (up_to_more a) ∙ one_more f (up_to a 0) a))
