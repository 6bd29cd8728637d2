-- What is due in a scope, part by part: of its connectors, and of each attempt that has started, which its state shows.
use Rattle.std.proofs.Common.{◌≡◌, ℕ, zero, suc, ◌+◌, Bool, true, false, ◌&&◌, if◌then◌else◌, List, [], ◌∷◌, ◌++◌, map, length, Option, Some, None, refl, ap, sym, ◌∙◌, arith}
use Rattle.std.specs.Prelude.{slice_get}
use Rattle.std.specs.List.{flat_map}
use Rattle.flow_model.specs.Fates.{Ends}
use Rattle.flow_model.specs.ScopeContainers.{graph_in, up_to}
use Rattle.flow_model.specs.Scopes.{Known, at, part, Runs, Start, step, rounds, output, tree_ends, started_at}
use Rattle.flow_model.specs.declared.graphs.Activity.{Activity}
use Rattle.flow_model.specs.declared.graphs.Container.{Container}
use Rattle.flow_model.specs.declared.graphs.Control.{Control}
use Rattle.flow_model.specs.declared.graphs.Graph.{Graph, out-Graph}
use Rattle.flow_model.specs.declared.graphs.Template.{Template}
use Rattle.flow_model.specs.declared.instances.Part.{Part}
use Rattle.flow_model.specs.declared.instances.SourceEnd.TheVariants.{Unsettled}
use Rattle.flow_model.specs.declared.names.Name.{Name}
use Rattle.navigator.proofs.EndedScopes.{output_inside}
use Rattle.navigator.proofs.Leading.{has_scopes}
use Rattle.navigator.proofs.Merges.{flat_same, flat_nothing}
use Rattle.navigator.proofs.RowLists.{started_numbered}
use Rattle.navigator.proofs.ShownAgain.{IsSameInside, inside_scope, ends_as_before, starts_as_before}
use Rattle.navigator.specs.Serving.{Served}
use Rattle.navigator.specs.Views.{ShowsWithin, shows_attempt, ShowsActivity}
use Rattle.navigator.specs.declared.scopes.ActivityState.{ActivityState, Program, Nested}
use Rattle.navigator.specs.declared.scopes.NestedState.{out-NestedState}
use Rattle.navigator.specs.declared.scopes.ScopeState.{ScopeState, out-ScopeState}
use Rattle.view_laws.specs.Messages.{Note, BeginNote, EndNote, push, notes, is_given, due_with, due_at, due_in}

-- ---- parts

abbrev pub Below : Type 0
Below = Known → Graph → Container → List Note

-- what is due in the scopes one step down
abbrev pub due_below : List Template → ℕ → Below
due_below ts zero = λ k g i. []
due_below ts (suc depth) = due_in ts depth

abbrev pub due_place : List Template → ℕ → Known → Graph → Container → Ends → ℕ → List Note
due_place ts depth k g input e a = due_at ts (output ts depth) (due_below ts depth) k g input e a (slice_get (out-Graph g).activities a)

abbrev pub own_notes : Graph → Ends → List Note
own_notes g e = notes (out-Graph g).controls (out-Graph g).controls e

-- what is due in a scope is what its connectors send, and what is due below each activity
pub due_is : (ts : List Template) (depth : ℕ) (k : Known) (g : Graph) (input : Container) → Served ts depth g
    → due_in ts depth k g input
    ≡ own_notes g (tree_ends ts depth k g input) ++ flat_map (due_place ts depth k g input (tree_ends ts depth k g input)) (up_to (length (out-Graph g).activities) 0)
due_is ts (suc depth) k g input served = refl
due_is ts zero k g input served =
    let e : Ends = tree_ends ts zero k g input in
    let none = flat_nothing (due_place ts zero k g input e) (length (out-Graph g).activities) 0 (λ a low high. each e a (slice_get (out-Graph g).activities a) refl) in
    sym (ap (λ l. own_notes g e ++ l) none ∙ append_nothing (own_notes g e))
  where
    append_nothing : (xs : List Note) → xs ++ [] ≡ xs
    append_nothing [] = refl
    append_nothing (x ∷ xs) = ap (λ l. x ∷ l) (append_nothing xs)

    each : (e : Ends) (a : ℕ) (o : Option Activity) → slice_get (out-Graph g).activities a ≡ o → due_at ts (output ts zero) (due_below ts zero) k g input e a o ≡ []
    each e a None is = refl
    each e a (Some activity) is = go (graph_in ts activity.work) refl
      where
        go : (o : Option Graph) → graph_in ts activity.work ≡ o
            → due_with (output ts zero) (due_below ts zero) k activity.name o (started_at ts k (output ts zero) g input e a activity) ≡ []
        go None of = refl
        go (Some h) of = absurd (served.inside a activity h is of)

-- what is due of an attempt, by what is known inside it
abbrev pub due_by : Runs → Below → Part → Graph → Container → Known → List Note
due_by runs below r h i j = BeginNote (r ∷ []) ∷ (if j.begun [] && is_given (runs j h i) then EndNote (r ∷ []) ∷ [] else []) ++ map (push r) (below j h i)

abbrev pub due_start : Runs → Below → Known → Name → Graph → Start → List Note
due_start runs below k name h s = due_by runs below (part name s.attempt) h s.input (at (part name s.attempt) k)

-- the END of a scope, where it is complete
abbrev pub end_note : Bool → List Note
end_note b = if b then EndNote [] ∷ [] else []

abbrev pub is_over : List Template → ℕ → Known → Graph → Container → Bool
is_over ts depth k g input = k.begun [] && is_given (output ts (suc depth) k g input)

-- all that is due of a scope and in it, from there
abbrev pub all_notes : List Template → ℕ → Known → Graph → Container → List Note
all_notes ts depth k g input = BeginNote [] ∷ end_note (is_over ts depth k g input) ++ due_in ts depth k g input

-- what is due of an attempt is all that is due of its scope, one step up
pub due_pushed : (ts : List Template) (depth : ℕ) (r : Part) (h : Graph) (i : Container) (j : Known)
    → due_by (output ts (suc depth)) (due_in ts depth) r h i j ≡ map (push r) (all_notes ts depth j h i)
due_pushed ts depth r h i j = go (is_over ts depth j h i)
  where
    go : (b : Bool) → BeginNote (r ∷ []) ∷ (if b then EndNote (r ∷ []) ∷ [] else []) ++ map (push r) (due_in ts depth j h i) ≡ map (push r) (BeginNote [] ∷ end_note b ++ due_in ts depth j h i)
    go true = refl
    go false = refl

-- ---- the same inside

-- the same is due where the same is known inside
pub due_inside : (ts : List Template) (depth : ℕ) (k k' : Known) (g : Graph) (input : Container) → IsSameInside k k' → due_in ts depth k' g input ≡ due_in ts depth k g input
due_inside ts zero k k' g input same = ap (own_notes g) (ends_as_before ts (output ts zero) k k' g input (inside_scope ts k k' (output ts zero) same))
due_inside ts (suc depth) k k' g input same =
    let runs : Runs = output ts (suc depth) in
    let scope = inside_scope ts k k' runs same in
    let ends : tree_ends ts (suc depth) k' g input ≡ tree_ends ts (suc depth) k g input = ends_as_before ts runs k k' g input scope in
    let e : Ends = tree_ends ts (suc depth) k g input in
    ap (λ (f : Ends). own_notes g f ++ flat_map (due_place ts (suc depth) k' g input f) (up_to (length (out-Graph g).activities) 0)) ends
    ∙ ap (λ l. own_notes g e ++ l)
    (flat_same (due_place ts (suc depth) k g input e) (due_place ts (suc depth) k' g input e) (up_to (length (out-Graph g).activities) 0)
    (λ c a there. each e a (slice_get (out-Graph g).activities a) (λ activity. starts_as_before ts runs k k' g input scope e a activity)))
  where
    each : (e : Ends) (a : ℕ) (o : Option Activity)
        → ((activity : Activity) → started_at ts k' (output ts (suc depth)) g input e a activity ≡ started_at ts k (output ts (suc depth)) g input e a activity)
        → due_at ts (output ts (suc depth)) (due_in ts depth) k' g input e a o ≡ due_at ts (output ts (suc depth)) (due_in ts depth) k g input e a o
    each e a None starts = refl
    each e a (Some activity) starts =
        ap (due_with (output ts (suc depth)) (due_in ts depth) k' activity.name (graph_in ts activity.work)) (starts activity)
        ∙ go (graph_in ts activity.work) (started_at ts k (output ts (suc depth)) g input e a activity)
      where
        go : (o : Option Graph) (ss : List Start)
            → due_with (output ts (suc depth)) (due_in ts depth) k' activity.name o ss ≡ due_with (output ts (suc depth)) (due_in ts depth) k activity.name o ss
        go None ss = refl
        go (Some h) ss =
            flat_same (due_start (output ts (suc depth)) (due_in ts depth) k activity.name h) (due_start (output ts (suc depth)) (due_in ts depth) k' activity.name h) ss
            (λ c s there. ap (due_by (output ts (suc depth)) (due_in ts depth) (part activity.name s.attempt) h s.input) (same.below (part activity.name s.attempt)))

-- what is due of an attempt in which the same is known
pub due_by_inside : (ts : List Template) (depth : ℕ) (r : Part) (h : Graph) (i : Container) (j j' : Known) → IsSameInside j j'
    → due_by (output ts depth) (due_below ts depth) r h i j' ≡ due_by (output ts depth) (due_below ts depth) r h i j
due_by_inside ts depth r h i j j' same =
    let gave : output ts depth j' h i ≡ output ts depth j h i = output_inside ts depth j j' h i same in
    let below : due_below ts depth j' h i ≡ due_below ts depth j h i = inside depth in
    rw (same.begun, gave, below) refl
  where
    inside : (depth : ℕ) → due_below ts depth j' h i ≡ due_below ts depth j h i
    inside zero = refl
    inside (suc depth) = due_inside ts depth j j' h i same

-- ---- a scope that hasn't begun

module _ (ts : List Template) (k : Known) (runs : Runs) (g : Graph) (input : Container) (unbegun : k.begun [] ≡ false) where
  -- no activity of it is settled
  pub still : (n a : ℕ) → rounds (step ts k runs g input) n a ≡ Unsettled
  still zero a = refl
  still (suc n) a = rw unbegun refl

  no_notes : (controls cs : List Control) (e : Ends) → ((a : ℕ) → e a ≡ Unsettled) → notes controls cs e ≡ []
  no_notes controls [] e none = refl
  no_notes controls (c ∷ cs) e none = rw (none c.from) (no_notes controls cs e none)

  no_starts : (below : Below) (e : Ends) (a : ℕ) (o : Option Activity) → due_at ts runs below k g input e a o ≡ []
  no_starts below e a None = refl
  no_starts below e a (Some activity) = rw unbegun (go (graph_in ts activity.work))
    where
      go : (o : Option Graph) → due_with runs below k activity.name o [] ≡ []
      go None = refl
      go (Some h) = refl

-- nothing is due in it
pub due_unbegun : (ts : List Template) (depth : ℕ) (k : Known) (g : Graph) (input : Container) → k.begun [] ≡ false → due_in ts depth k g input ≡ []
due_unbegun ts zero k g input unbegun =
    no_notes ts k (output ts zero) g input unbegun (out-Graph g).controls (out-Graph g).controls (tree_ends ts zero k g input)
    (λ a. still ts k (output ts zero) g input unbegun (length (out-Graph g).activities) a)
due_unbegun ts (suc depth) k g input unbegun =
    let e : Ends = tree_ends ts (suc depth) k g input in
    ap (λ l. l ++ flat_map (due_place ts (suc depth) k g input e) (up_to (length (out-Graph g).activities) 0))
    (no_notes ts k (output ts (suc depth)) g input unbegun (out-Graph g).controls (out-Graph g).controls e
    (λ a. still ts k (output ts (suc depth)) g input unbegun (length (out-Graph g).activities) a))
    ∙ flat_nothing (due_place ts (suc depth) k g input e) (length (out-Graph g).activities) 0
    (λ a low high. no_starts ts k (output ts (suc depth)) g input unbegun (due_in ts depth) e a (slice_get (out-Graph g).activities a))

-- of an attempt whose scope hasn't begun only its BEGIN is due
pub due_new : (ts : List Template) (depth : ℕ) (r : Part) (h : Graph) (i : Container) (j : Known) → j.begun [] ≡ false
    → due_by (output ts depth) (due_below ts depth) r h i j ≡ BeginNote (r ∷ []) ∷ []
due_new ts depth r h i j unbegun =
    let below : due_below ts depth j h i ≡ [] = inside depth in
    rw (unbegun, below) refl
  where
    inside : (depth : ℕ) → due_below ts depth j h i ≡ []
    inside zero = refl
    inside (suc depth) = due_unbegun ts depth j h i unbegun

-- ---- attempts by the scopes that a state has

abbrev pub scopes_in : ActivityState → List ScopeState
scopes_in (Program p) = []
scopes_in (Nested n) = (out-NestedState n).scopes.items

abbrev pub starts_of : ℕ → List ScopeState → List Start
starts_of j [] = []
starts_of j (s ∷ ss) = record { attempt = j; input = (out-ScopeState s).input } ∷ starts_of (j + 1) ss

-- as many attempts as scopes
pub starts_long : (j : ℕ) (ss : List ScopeState) → length (starts_of j ss) ≡ length ss
starts_long j [] = refl
starts_long j (s ∷ ss) = ap suc (starts_long (j + 1) ss)

-- one more scope, one more attempt
pub starts_more : (j : ℕ) (ss : List ScopeState) (s : ScopeState)
    → starts_of j (ss ++ s ∷ []) ≡ starts_of j ss ++ record { attempt = length ss + j; input = (out-ScopeState s).input } ∷ []
starts_more j [] s = let number : j ≡ 0 + j = omega arith in ap (λ n. record { attempt = n; input = (out-ScopeState s).input } ∷ []) number
starts_more j (x ∷ ss) s =
    let rest = starts_more (j + 1) ss s in
    let number : length ss + (j + 1) ≡ suc (length ss) + j = omega arith in
    ap (λ l. record { attempt = j; input = (out-ScopeState x).input } ∷ l)
    (rest ∙ ap (λ n. starts_of (j + 1) ss ++ record { attempt = n; input = (out-ScopeState s).input } ∷ []) number)

starts_shown : (j : ℕ) (starts : List Start) (ss : List ScopeState) → length ss ≡ length starts
    → ((i : ℕ) (start : Start) → slice_get starts i ≡ Some start → start.attempt ≡ i + j)
    → ((i : ℕ) (start : Start) (s : ScopeState) → slice_get starts i ≡ Some start → slice_get ss i ≡ Some s → (out-ScopeState s).input ≡ start.input)
    → starts ≡ starts_of j ss
starts_shown j [] [] long numbered reads = refl
starts_shown j [] (s ∷ ss) long numbered reads = absurd (omega arith)
starts_shown j (x ∷ starts) [] long numbered reads = absurd (omega arith)
starts_shown j (x ∷ starts) (s ∷ ss) long numbered reads =
    let number : x.attempt ≡ j = let n = numbered 0 x refl in omega arith in
    let input : (out-ScopeState s).input ≡ x.input = reads 0 x s refl refl in
    let rest = starts_shown (j + 1) starts ss (omega arith) (λ i start at. let n = numbered (suc i) start at in omega arith) (λ i start t at there. reads (suc i) start t at there) in
    let first : x ≡ record { attempt = j; input = (out-ScopeState s).input } = ap (λ n. record { attempt = n; input = x.input }) number ∙ ap (λ (c : Container). record { attempt = j; input = c }) (sym input) in
    ap (λ l. x ∷ l) rest ∙ ap (λ (y : Start). y ∷ starts_of (j + 1) ss) first

-- the scope of an attempt reads its input, and has begun where that is known
pub attempt_reads : (ts : List Template) (depth : ℕ) (k : Known) (name : Name) (o : Option Graph) (start : Start) (s : ScopeState)
    → shows_attempt (ShowsWithin ts depth) k name o start s → ((out-ScopeState s).input ≡ start.input) × ((out-ScopeState s).begun ≡ k.begun (part name start.attempt ∷ []))
attempt_reads ts depth k name None start s is = absurd is
attempt_reads ts zero k name (Some h) start s is = absurd is
attempt_reads ts (suc depth) k name (Some h) start s is = (is.reads, is.begun)

-- the attempts that have started are those of the scopes in the state of their activity
pub activity_starts : (ts : List Template) (depth : ℕ) (k : Known) (g : Graph) (input : Container) (e : Ends) (x : ℕ) (y : Activity) (h : Graph) (state : ActivityState)
    → graph_in ts y.work ≡ Some h → ShowsActivity ts k (output ts depth) (ShowsWithin ts depth) g input e x y state
    → started_at ts k (output ts depth) g input e x y ≡ starts_of 1 (scopes_in state)
activity_starts ts depth k g input e x y h state of shows =
    let has = has_scopes ts y.work h _ _ _ (shows_attempt (ShowsWithin ts depth) k y.name (graph_in ts y.work)) state of shows in
    let found = starts_shown 1 (started_at ts k (output ts depth) g input e x y) (out-NestedState has.nested).scopes.items has.shown.count
    (λ i start at. started_numbered ts k (output ts depth) g input e x y i start at)
    (λ i start s at there. (attempt_reads ts depth k y.name (graph_in ts y.work) start s (has.shown.scopes i start s at there)).0) in
    found ∙ ap (λ (st : ActivityState). starts_of 1 (scopes_in st)) (sym has.is)
