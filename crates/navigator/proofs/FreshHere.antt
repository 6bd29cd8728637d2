-- What became due in the scope of an event is what the event told, read from the states before and after it.
use Rattle.std.proofs.Common.{◌≡◌, ℕ, zero, suc, ◌+◌, ◌≤◌, ◌<◌, ◌==◌, Bool, true, false, ◌&&◌, if◌then◌else◌, List, [], ◌∷◌, ◌++◌, length, Option, Some, None, ◌⊎◌, refl, ap, sym, ◌∙◌, subst, arith, inl, inr}
use Rattle.std.specs.Prelude.{slice_get}
use Rattle.std.specs.List.{flat_map, list_all}
use Rattle.std.proofs.lemmas.Bool.Decides.{eqb_tells}
use Rattle.dead_paths.proofs.Places.{here}
use Rattle.flow_model.specs.Fates.{Ends, is_settled}
use Rattle.flow_model.specs.ScopeContainers.{graph_in, up_to, is_complete, output_by}
use Rattle.flow_model.specs.Scopes.{Known, at, part, Start, output, tree_ends, started_at}
use Rattle.flow_model.specs.declared.graphs.Activity.{Activity}
use Rattle.flow_model.specs.declared.graphs.Container.{Container}
use Rattle.flow_model.specs.declared.graphs.Graph.{Graph, out-Graph}
use Rattle.flow_model.specs.declared.graphs.Template.{Template}
use Rattle.flow_model.specs.declared.instances.Part.{Part}
use Rattle.flow_model.specs.declared.instances.Path.{Path}
use Rattle.navigator.proofs.DueParts.{due_below, due_place, own_notes, due_is, due_start, end_note, is_over, due_by_inside, due_new, scopes_in, starts_of, starts_long, starts_more, attempt_reads, activity_starts}
use Rattle.navigator.proofs.Leading.{has_scopes}
use Rattle.navigator.proofs.Merges.{Merges, merges_same, merges_append, merges_flat, flat_same}
use Rattle.navigator.proofs.Places.{present}
use Rattle.navigator.proofs.ReadScopes.{shown_complete}
use Rattle.navigator.proofs.ShownAgain.{IsSameInside}
use Rattle.navigator.proofs.ToldNotes.{AreTold, kind_only, kind_append}
use Rattle.navigator.specs.Serving.{Served}
use Rattle.navigator.specs.Steps.{Told, is_root}
use Rattle.navigator.specs.Views.{ShowsWithin, shows_attempt, ShowsActivity, Shows}
use Rattle.navigator.specs.declared.scopes.ActivityState.{ActivityState}
use Rattle.navigator.specs.declared.scopes.ScopeState.{ScopeState, out-ScopeState}
use Rattle.view_laws.specs.Messages.{Note, BeginNote, is_given, due_with, due_at, due_in}

-- ---- what an event gives, from the scope that receives it

-- what was added to what is due there, whether the scope is complete by it, and that this is what was told
pub record IsGivenAt (ts : List Template) (depth : ℕ) (k k' : Known) (g : Graph) (input : Container) (path : Path) (tells : Told) : Type 0 where
  pub added : List Note
  pub over : Bool
  pub due : Merges (due_in ts depth k g input) added (due_in ts depth k' g input)
  pub own : Merges (end_note (is_over ts depth k g input)) (end_note over) (end_note (is_over ts depth k' g input))
  pub signals : AreTold g path tells.signals (kind_only 0 added)
  pub begins : AreTold g path tells.begins (kind_only 1 added)
  pub none : kind_only 2 added ≡ []
  pub ends : AreTold g path tells.ends (if is_root path.parts then [] else end_note over)

-- ---- one activity

-- the BEGIN of an attempt, where there is one
abbrev pub begin_notes : Option (List Part) → List Note
begin_notes None = []
begin_notes (Some r) = BeginNote r ∷ []

-- an activity has the scopes that it had, or one more, which hasn't begun
abbrev pub Grown : List Template → Activity → ActivityState → ActivityState → Option (List Part) → Type 0
Grown ts y was now o =
    ((scopes_in now ≡ scopes_in was) × (o ≡ None))
    ⊎ ((h : Graph) × (next : ScopeState) × (graph_in ts y.work ≡ Some h) × ((out-ScopeState next).begun ≡ false) × (scopes_in now ≡ scopes_in was ++ next ∷ [])
    × (o ≡ Some (part y.name (length (scopes_in was) + 1) ∷ [])))

-- the scope of an attempt has begun where it is known to
scope_begun : (ts : List Template) (depth : ℕ) (k : Known) (g : Graph) (input : Container) (e : Ends) (x : ℕ) (y : Activity) (h : Graph) (state : ActivityState)
    → graph_in ts y.work ≡ Some h → ShowsActivity ts k (output ts depth) (ShowsWithin ts depth) g input e x y state → (i : ℕ) (start : Start) (s : ScopeState)
    → slice_get (started_at ts k (output ts depth) g input e x y) i ≡ Some start → slice_get (scopes_in state) i ≡ Some s → (out-ScopeState s).begun ≡ k.begun (part y.name start.attempt ∷ [])
scope_begun ts depth k g input e x y h state of shows i start s at there =
    let has = has_scopes ts y.work h _ _ _ (shows_attempt (ShowsWithin ts depth) k y.name (graph_in ts y.work)) state of shows in
    (attempt_reads ts depth k y.name (graph_in ts y.work) start s
    (has.shown.scopes i start s at (ap (λ (st : ActivityState). slice_get (scopes_in st) i) (sym has.is) ∙ there))).1

append_end : {X : Type 0} (xs : List X) → xs ++ [] ≡ xs
append_end [] = refl
append_end (x ∷ xs) = ap (λ l. x ∷ l) (append_end xs)

append_three : {X : Type 0} (xs ys zs : List X) → xs ++ (ys ++ zs) ≡ (xs ++ ys) ++ zs
append_three [] ys zs = refl
append_three (x ∷ xs) ys zs = ap (λ l. x ∷ l) (append_three xs ys zs)

flat_append : {X S : Type 0} (F : S → List X) (ss ts : List S) → flat_map F (ss ++ ts) ≡ flat_map F ss ++ flat_map F ts
flat_append F [] ts = refl
flat_append F (s ∷ ss) ts = ap (λ l. F s ++ l) (flat_append F ss ts) ∙ append_three (F s) (flat_map F ss) (flat_map F ts)

module _ (ts : List Template) (depth : ℕ) (k k' : Known) (g : Graph) (input : Container) (inside : (r : Part) → IsSameInside (at r k) (at r k')) (e E : Ends) (x : ℕ) (y : Activity)
    (was now : ActivityState) (shows : ShowsActivity ts k (output ts depth) (ShowsWithin ts depth) g input e x y was)
    (shows' : ShowsActivity ts k' (output ts depth) (ShowsWithin ts depth) g input E x y now) where
  abbrev old_dues : Graph → Start → List Note
  old_dues h = due_start (output ts depth) (due_below ts depth) k y.name h

  abbrev new_dues : Graph → Start → List Note
  new_dues h = due_start (output ts depth) (due_below ts depth) k' y.name h

  same_dues : (h : Graph) (ss : List Start) → flat_map (new_dues h) ss ≡ flat_map (old_dues h) ss
  same_dues h ss =
      flat_same (old_dues h) (new_dues h) ss
      (λ c s there. due_by_inside ts depth (part y.name s.attempt) h s.input (at (part y.name s.attempt) k) (at (part y.name s.attempt) k') (inside (part y.name s.attempt)))

  -- one more attempt, whose scope hasn't begun
  one_more : (h : Graph) (next : ScopeState) → graph_in ts y.work ≡ Some h → (out-ScopeState next).begun ≡ false → scopes_in now ≡ scopes_in was ++ next ∷ []
      → Merges (flat_map (old_dues h) (starts_of 1 (scopes_in was))) (BeginNote (part y.name (length (scopes_in was) + 1) ∷ []) ∷ []) (flat_map (new_dues h) (starts_of 1 (scopes_in was ++ next ∷ [])))
  one_more h next of begun scopes =
      let ss = starts_of 1 (scopes_in was) in
      let last : Start = record { attempt = length (scopes_in was) + 1; input = (out-ScopeState next).input } in
      let starts : started_at ts k' (output ts depth) g input E x y ≡ ss ++ last ∷ []
      = activity_starts ts depth k' g input E x y h now of shows' ∙ ap (starts_of 1) scopes ∙ starts_more 1 (scopes_in was) next in
      let at_last : slice_get (started_at ts k' (output ts depth) g input E x y) (length (scopes_in was)) ≡ Some last
      = ap (λ l. slice_get l (length (scopes_in was))) starts ∙ here ss last [] (length (scopes_in was)) (starts_long 1 (scopes_in was)) in
      let at_next : slice_get (scopes_in now) (length (scopes_in was)) ≡ Some next
      = ap (λ l. slice_get l (length (scopes_in was))) scopes ∙ here (scopes_in was) next [] (length (scopes_in was)) refl in
      let unbegun : k'.begun (part y.name last.attempt ∷ []) ≡ false
      = sym (scope_begun ts depth k' g input E x y h now of shows' (length (scopes_in was)) last next at_last at_next) ∙ begun in
      let fresh : new_dues h last ≡ BeginNote (part y.name (length (scopes_in was) + 1) ∷ []) ∷ []
      = due_new ts depth (part y.name last.attempt) h last.input (at (part y.name last.attempt) k') unbegun in
      let split : flat_map (new_dues h) (starts_of 1 (scopes_in was ++ next ∷ [])) ≡ flat_map (old_dues h) ss ++ (BeginNote (part y.name (length (scopes_in was) + 1) ∷ []) ∷ [])
      = ap (flat_map (new_dues h)) (starts_more 1 (scopes_in was) next) ∙ flat_append (new_dues h) ss (last ∷ [])
      ∙ ap (λ l. l ++ flat_map (new_dues h) (last ∷ [])) (same_dues h ss)
      ∙ ap (λ l. flat_map (old_dues h) ss ++ l) (append_end (new_dues h last) ∙ fresh) in
      let merged = merges_append (flat_map (old_dues h) ss) [] (flat_map (old_dues h) ss) [] (BeginNote (part y.name (length (scopes_in was) + 1) ∷ []) ∷ [])
      (BeginNote (part y.name (length (scopes_in was) + 1) ∷ []) ∷ []) (merges_same (flat_map (old_dues h) ss)) (inr ([], refl, (refl, refl))) in
      subst (λ l. Merges l (BeginNote (part y.name (length (scopes_in was) + 1) ∷ []) ∷ []) (flat_map (new_dues h) (starts_of 1 (scopes_in was ++ next ∷ [])))) (append_end (flat_map (old_dues h) ss))
      (subst (λ l. Merges (flat_map (old_dues h) ss ++ []) (BeginNote (part y.name (length (scopes_in was) + 1) ∷ []) ∷ []) l) (sym split) merged)

  activity_merges : (o : Option (List Part)) → Grown ts y was now o
      → Merges (due_at ts (output ts depth) (due_below ts depth) k g input e x (Some y)) (begin_notes o) (due_at ts (output ts depth) (due_below ts depth) k' g input E x (Some y))
  activity_merges o grown = go (graph_in ts y.work) refl grown
    where
      go : (r : Option Graph) → graph_in ts y.work ≡ r → Grown ts y was now o
          → Merges (due_with (output ts depth) (due_below ts depth) k y.name r (started_at ts k (output ts depth) g input e x y)) (begin_notes o)
          (due_with (output ts depth) (due_below ts depth) k' y.name r (started_at ts k' (output ts depth) g input E x y))
      go None of (inl same) = rw same.1 (refl, refl)
      go None of (inr more) = let never : None ≡ Some more.0 = sym of ∙ more.2 in let wrong : ⊥ = cc in absurd wrong
      go (Some h) of (inl same) =
          let old = activity_starts ts depth k g input e x y h was of shows in
          let new = activity_starts ts depth k' g input E x y h now of shows' ∙ ap (starts_of 1) same.0 in
          rw (old, new, same.1)
          (subst (λ l. Merges (flat_map (old_dues h) (starts_of 1 (scopes_in was))) [] l) (sym (same_dues h (starts_of 1 (scopes_in was)))) (merges_same (flat_map (old_dues h) (starts_of 1 (scopes_in was)))))
      go (Some h) of (inr more) =
          let old = activity_starts ts depth k g input e x y h was of shows in
          let new = activity_starts ts depth k' g input E x y h now of shows' ∙ ap (starts_of 1) more.4 in
          rw (old, new, more.5) (one_more h more.1 of more.3 more.4)

-- ---- the scope

given_complete : (g : Graph) (input : Container) (e : Ends) → is_given (output_by g input e) ≡ is_complete g e
given_complete g input e = go (is_complete g e) refl
  where
    go : (b : Bool) → is_complete g e ≡ b → is_given (output_by g input e) ≡ is_complete g e
    go true is = rw is refl
    go false is = rw is refl

-- a scope is complete where it has begun and nothing is left
pub over_is : (ts : List Template) (depth : ℕ) (k : Known) (g : Graph) (input : Container) (s : ScopeState) → Shows ts depth k g input s
    → is_over ts depth k g input ≡ ((out-ScopeState s).begun && ((out-ScopeState s).unsettled == 0))
over_is ts depth k g input s shows = ap (λ b. k.begun [] && b) (given_complete g input (tree_ends ts depth k g input)) ∙ sym (shown_complete ts depth k g input s shows)

-- it isn't where an activity isn't settled
pub not_over : (ts : List Template) (depth : ℕ) (k : Known) (g : Graph) (input : Container) (a : ℕ) → a < length (out-Graph g).activities → is_settled (tree_ends ts depth k g input a) ≡ false
    → is_over ts depth k g input ≡ false
not_over ts depth k g input a less open_ =
    ap (λ b. k.begun [] && b) (given_complete g input (tree_ends ts depth k g input) ∙ all_not (length (out-Graph g).activities) 0 (omega arith) (omega arith)) ∙ and_false (k.begun [])
  where
    and_false : (b : Bool) → (b && false) ≡ false
    and_false true = refl
    and_false false = refl

    all_not : (n j : ℕ) → j ≤ a → a < n + j → list_all (λ b. is_settled (tree_ends ts depth k g input b)) (up_to n j) ≡ false
    all_not zero j low high = absurd (omega arith)
    all_not (suc n) j low high =
        let rest = λ (lower : j + 1 ≤ a). all_not n (j + 1) lower (omega arith) in
        elim (eqb_tells j a) [
          | inl is ↦ let miss : is_settled (tree_ends ts depth k g input j) ≡ false = ap (λ b. is_settled (tree_ends ts depth k g input b)) is.1 ∙ open_ in rw miss refl
          | inr other ↦ let apart = other.1 in ap (λ b. is_settled (tree_ends ts depth k g input j) && b) (rest (lower apart)) ∙ and_false (is_settled (tree_ends ts depth k g input j))
        ]
      where
        lower : (j ≡ a → ⊥) → j + 1 ≤ a
        lower apart = elim (eqb_tells j a) [ inl is ↦ absurd (apart is.1) | inr other ↦ let o = other.1 in omega arith ]

begin_kinds : (opens : ℕ → Option (List Part)) (n : ℕ) (xs : List ℕ)
    → kind_only n (flat_map (λ x. begin_notes (opens x)) xs) ≡ (if 1 == n then flat_map (λ x. begin_notes (opens x)) xs else [])
begin_kinds opens n [] = go [] (1 == n)
  where
    go : (l : List Note) (b : Bool) → l ≡ (if b then l else l)
    go l true = refl
    go l false = refl
begin_kinds opens n (x ∷ xs) =
    kind_append n (begin_notes (opens x)) (flat_map (λ x. begin_notes (opens x)) xs) ∙ ap (λ l. kind_only n (begin_notes (opens x)) ++ l) (begin_kinds opens n xs)
    ∙ go (opens x) (1 == n) refl
  where
    go : (o : Option (List Part)) (d : Bool) → (1 == n) ≡ d
        → kind_only n (begin_notes o) ++ (if d then flat_map (λ x. begin_notes (opens x)) xs else []) ≡ (if d then begin_notes o ++ flat_map (λ x. begin_notes (opens x)) xs else [])
    go None true is = refl
    go None false is = refl
    go (Some r) true is = rw is refl
    go (Some r) false is = rw is refl

module _ (ts : List Template) (depth : ℕ) (k k' : Known) (g : Graph) (input : Container) (s s' : ScopeState) (path : Path) (tells : Told)
    (served : Served ts depth g) (shows : Shows ts depth k g input s) (shows' : Shows ts depth k' g input s') (inside : (r : Part) → IsSameInside (at r k) (at r k'))
    (own : List Note) (noted : Merges (own_notes g (tree_ends ts depth k g input)) own (own_notes g (tree_ends ts depth k' g input)))
    (opens : ℕ → Option (List Part))
    (grown : (x : ℕ) (y : Activity) (was now : ActivityState) → slice_get (out-Graph g).activities x ≡ Some y → slice_get (out-ScopeState s).states.items x ≡ Some was
    → slice_get (out-ScopeState s').states.items x ≡ Some now → Grown ts y was now (opens x)) where
  abbrev n : ℕ
  n = length (out-Graph g).activities

  abbrev e : Ends
  e = tree_ends ts depth k g input

  abbrev E : Ends
  E = tree_ends ts depth k' g input

  abbrev begun_notes : List Note
  begun_notes = flat_map (λ x. begin_notes (opens x)) (up_to n 0)

  place_merges : (x : ℕ) → x < n → Merges (due_place ts depth k g input e x) (begin_notes (opens x)) (due_place ts depth k' g input E x)
  place_merges x less =
      let y = present (out-Graph g).activities x less in
      let was = present (out-ScopeState s).states.items x (let l = shows.stated in omega arith) in
      let now = present (out-ScopeState s').states.items x (let l = shows'.stated in omega arith) in
      let merged = activity_merges ts depth k k' g input inside e E x y.0 was.0 now.0 (shows.states x y.0 was.0 y.1 was.1) (shows'.states x y.0 now.0 y.1 now.1) (opens x)
      (grown x y.0 was.0 now.0 y.1 was.1 now.1) in
      subst (λ o. Merges (due_at ts (output ts depth) (due_below ts depth) k g input e x o) (begin_notes (opens x)) (due_at ts (output ts depth) (due_below ts depth) k' g input E x o)) (sym y.1) merged

  due_merges : Merges (due_in ts depth k g input) (own ++ begun_notes) (due_in ts depth k' g input)
  due_merges =
      let places = merges_flat (due_place ts depth k g input e) (λ x. begin_notes (opens x)) (due_place ts depth k' g input E) n 0 (λ x low high. place_merges x (omega arith)) in
      let all = merges_append (own_notes g e) own (own_notes g E) (flat_map (due_place ts depth k g input e) (up_to n 0)) begun_notes (flat_map (due_place ts depth k' g input E) (up_to n 0)) noted places in
      subst (λ l. Merges l (own ++ begun_notes) (due_in ts depth k' g input)) (sym (due_is ts depth k g input served))
      (subst (λ l. Merges (own_notes g e ++ flat_map (due_place ts depth k g input e) (up_to n 0)) (own ++ begun_notes) l) (sym (due_is ts depth k' g input served)) all)

  -- what an event tells is what it gives
  pub given_here : ((m : ℕ) → kind_only m own ≡ (if 0 == m then own else [])) → AreTold g path tells.signals own → AreTold g path tells.begins begun_notes
      → (over : Bool) → Merges (end_note (is_over ts depth k g input)) (end_note over) (end_note (is_over ts depth k' g input))
      → AreTold g path tells.ends (if is_root path.parts then [] else end_note over) → IsGivenAt ts depth k k' g input path tells
  given_here kinds signals begins over ended ends = record {
    added = own ++ begun_notes;
    over = over;
    due = due_merges;
    own = ended;
    signals = subst (AreTold g path tells.signals) (sym (split 0 ∙ append_end own)) signals;
    begins = subst (AreTold g path tells.begins) (sym (split 1)) begins;
    none = split 2;
    ends = ends;
  }
    where
      split : (m : ℕ) → kind_only m (own ++ begun_notes) ≡ (if 0 == m then own else []) ++ (if 1 == m then begun_notes else [])
      split m = kind_append m own begun_notes ∙ ap (λ l. l ++ kind_only m begun_notes) (kinds m) ∙ ap (λ l. (if 0 == m then own else []) ++ l) (begin_kinds opens m (up_to n 0))
