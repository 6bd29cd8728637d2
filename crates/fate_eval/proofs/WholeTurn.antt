-- The attempts of an activity, one after the other: all that is so after this many completions is found.
use Rattle.std.proofs.Common.{◌≡◌, ℕ, zero, suc, ◌+◌, ◌≤◌, ◌<◌, Bool, true, false, List, [], ◌∷◌, ◌++◌, length, Option, Some, None, cond, refl, ap, sym, subst, ◌∙◌, ◌⊎◌, inl, inr, arith}
use Rattle.std.specs.Prelude.{slice_index_or}
use Rattle.std.specs.List.{Contains, last_or}
use Rattle.std.proofs.lemmas.Bool.{cases_lt}
use Rattle.std.proofs.lemmas.List.{append_cancel_left}
use Rattle.std.proofs.lemmas.List.Elements.{Contains-append_left, Contains-append_right, Contains-append_cases}
use Rattle.flow_model.specs.Conditions.{holds}
use Rattle.flow_model.specs.Fates.{goes_on, tried, ended, is_settled}
use Rattle.flow_model.specs.Rows.{rows_below}
use Rattle.flow_model.specs.ScopeContainers.{graph_in, looped}
use Rattle.flow_model.specs.Scopes.{Known, Gives, Trial, Start, then_start, starts, gives, trial, tries_on, output, part}
use Rattle.flow_model.specs.declared.graphs.Activity.{Activity}
use Rattle.flow_model.specs.declared.graphs.Container.{Container}
use Rattle.flow_model.specs.declared.graphs.Graph.{Graph, out-Graph}
use Rattle.flow_model.specs.declared.graphs.Template.{Template}
use Rattle.flow_model.specs.declared.graphs.Work.{Work, Program, Block, Process}
use Rattle.flow_model.specs.declared.instances.Fate.{Fate}
use Rattle.flow_model.specs.declared.instances.Fate.TheVariants.{Finished, Ready}
use Rattle.flow_model.specs.declared.instances.FateRow.{FateRow}
use Rattle.flow_model.specs.declared.instances.Path.{Path}
use Rattle.flow_model.specs.declared.instances.SourceEnd.{SourceEnd}
use Rattle.flow_model.specs.declared.instances.SourceEnd.TheVariants as end
use Rattle.fate_eval.specs.Entries.{dated_in, known_after}
use Rattle.fate_eval.specs.Passing.{AreAttempts, rows_inside, turn_of}
use Rattle.fate_eval.specs.Timely.{IsShownReady, IsTimelyAttempt, tried_rows}
use Rattle.fate_eval.specs.Whole.{IsWholeAttempt, IsWholeLast, AreWhole}
use Rattle.fate_eval.specs.declared.accepted.Entry.{Entry}
use Rattle.fate_eval.specs.declared.passes.Turn.TheVariants.{Stops, GoesOn}
use Rattle.fate_eval.proofs.Turns.{Goes, goes_first, goes_more, goes_stop, tried_from, fate_from}

no_end : false ≡ true → ⊥
no_end h = cc

-- ---- which row shows a completion

-- a row is the one of the activity, or one of these
pub shown_cases : (es : List Entry) (s : Path) (xs ys : List FateRow) (i : ℕ) → IsShownReady es s (xs ++ ys) i → IsShownReady es s xs i ⊎ IsShownReady es s ys i
shown_cases es s xs ys i is = elim (Contains-append_cases xs ys (record { scope = is.scope; name = is.last.name; fate = Ready is.last.attempt }) is.shown) [
  | inl left ↦ inl (record { scope = is.scope; last = is.last; rest = is.rest; output = is.output; item = is.item; dated = is.dated; shown = left })
  | inr right ↦ inr (record { scope = is.scope; last = is.last; rest = is.rest; output = is.output; item = is.item; dated = is.dated; shown = right })
]

pub shown_none : (es : List Entry) (s : Path) (i : ℕ) → IsShownReady es s [] i → ⊥
shown_none es s i is = let less = is.shown.1 in omega (arith, less)

pub one_row : (x y : FateRow) → Contains (x ∷ []) y → x ≡ y
one_row x y there = go there.0 there.1 there.2
  where
    go : (k : ℕ) → k < 1 → slice_index_or (x ∷ []) k y ≡ y → x ≡ y
    go zero less is = is
    go (suc k) less is = absurd (omega arith)

goes_ready : (work : Work) (j k : ℕ) → goes_on work j ≡ Ready k → j ≡ k
goes_ready (Program p) j k is = cc
goes_ready (Block g) j k is = let n : ⊥ = cc in absurd n
goes_ready (Process t) j k is = let n : ⊥ = cc in absurd n

-- the row of the activity itself shows the attempt that is next
pub shown_own : (es : List Entry) (s : Path) (activity : Activity) (f : Fate) (i : ℕ) → IsShownReady es s (record { scope = s; name = activity.name; fate = f } ∷ []) i
    → (j : ℕ) × (f ≡ Ready j) × (out : Container) × (dated_in es (part activity.name j ∷ []) ≡ Some (record { after = i + 1; output = out }))
shown_own es s activity f i is =
    let row = one_row _ _ is.shown in
    let scope : s ≡ is.scope = ap (λ (r : FateRow). r.scope) row in
    let name : activity.name ≡ is.last.name = ap (λ (r : FateRow). r.name) row in
    let last : is.last ≡ part activity.name is.last.attempt = ap (λ n. part n is.last.attempt) (sym name) in
    let parts : s.parts ++ is.last ∷ [] ≡ s.parts ++ is.rest = ap (λ (p : Path). p.parts ++ is.last ∷ []) scope ∙ ap (λ (p : Path). p.parts) is.item in
    let rest : is.last ∷ [] ≡ is.rest = append_cancel_left s.parts (is.last ∷ []) is.rest parts in
    (is.last.attempt, ap (λ (r : FateRow). r.fate) row, is.output, ap (λ q. dated_in es (q ∷ [])) (sym last) ∙ ap (dated_in es) rest ∙ is.dated)

module _ (ts : List Template) (depth most : ℕ) (es : List Entry) (g : Graph) (s : Path) (a : ℕ) (activity : Activity) (base : Container) where
  abbrev k : ℕ → Known
  k n = known_after most es n

  abbrev give : ℕ → Gives
  give n = gives ts (k n) (output ts depth) activity.name activity.work

  abbrev t : Trial
  t = trial g a activity base

  abbrev outs : ℕ → List Container
  outs n = tries_on ts (k n) (output ts depth) g a activity base

  abbrev fate : ℕ → Fate
  fate n = tried activity (length (outs n)) (last_or None (outs n))

  abbrev all_rows : ℕ → List FateRow
  all_rows n = tried_rows ts depth most es s activity n (outs n) (starts (suc most) (give n) t 1 base)

  abbrev rows_of : ℕ → List Start → List FateRow
  rows_of n xs = rows_below (rows_inside ts depth) (k n) activity (graph_in ts activity.work) xs s

  abbrev start : ℕ → Container → Start
  start j input = record { attempt = j; input = input }

  -- after n completions the activity goes on
  pub record IsOpenStill (n : ℕ) (ready : List ℕ) : Type 0 where
    pub unsettled : is_settled (ended (fate n) (outs n)) ≡ true → ⊥
    pub shown : IsShownReady es s (all_rows n) n → Contains ready n

  -- before attempt j: after no fewer completions it is next, and before that the activity goes on
  pub record IsTold (since after j : ℕ) (input : Container) (ready : List ℕ) : Type 0 where
    pub goes : (n : ℕ) → after ≤ n → (rows : List FateRow) × Goes ts depth (k n) g s a activity base j input rows × (IsShownReady es s rows n → Contains ready n)
    pub before : (n : ℕ) → since ≤ n → n < after → IsOpenStill n ready

  pub told_first : (since : ℕ) → IsTold since since 1 base []
  told_first since = record {
    goes = λ n less. ([], goes_first ts depth (k n) g s a activity base, λ is. absurd (shown_none es s n is));
    before = λ n low high. absurd (omega (arith, low, high));
  }

  ended_goes : (work : Work) (j : ℕ) (os : List Container) → ended (goes_on work j) os ≡ end.Unsettled
  ended_goes (Program p) j os = refl
  ended_goes (Block h) j os = refl
  ended_goes (Process x) j os = refl

  fate_is : (n j left : ℕ) (input : Container) (f : Fate) → fate_from left (give n) t activity.work j input ≡ fate_from most (give n) t activity.work 1 base
      → fate_from left (give n) t activity.work j input ≡ f → fate n ≡ f
  fate_is n j left input f same is =
      let zero_add : zero + length (outs n) ≡ length (outs n) = omega arith in
      rw zero_add at (tried_from activity (give n) t refl most 1 0 base None (omega arith) refl) ∙ sym same ∙ is

  -- the rows, where the attempt that is next is the last one
  rows_end : (n j left : ℕ) (input : Container) (rows : List FateRow) → rows ++ rows_of n (starts (suc left) (give n) t j input) ≡ rows_of n (starts (suc most) (give n) t 1 base)
      → then_start t (give n j input) (λ out. starts left (give n) t (j + 1) (t.loops out)) ≡ []
      → rows_of n (starts (suc most) (give n) t 1 base) ≡ rows ++ rows_of n (start j input ∷ [])
  rows_end n j left input rows shown none = sym shown ∙ ap (λ xs. rows ++ rows_of n (start j input ∷ xs)) none

  -- a completion that is shown is one of those before, or of this attempt
  shown_end : (n j : ℕ) (input : Container) (rows : List FateRow) (f : Fate) (found : List ℕ) → fate n ≡ f
      → rows_of n (starts (suc most) (give n) t 1 base) ≡ rows ++ rows_of n (start j input ∷ [])
      → (IsShownReady es s (record { scope = s; name = activity.name; fate = f } ∷ []) n → Contains found n)
      → (IsShownReady es s rows n → Contains found n) → (IsShownReady es s (rows_of n (start j input ∷ [])) n → Contains found n)
      → IsShownReady es s (all_rows n) n → Contains found n
  shown_end n j input rows f found is all own before here shown =
      elim (shown_cases es s (record { scope = s; name = activity.name; fate = fate n } ∷ []) (rows_of n (starts (suc most) (give n) t 1 base)) n shown) [
        | inl first ↦ own (let P : Fate → Type 0 = λ x. IsShownReady es s (record { scope = s; name = activity.name; fate = x } ∷ []) n in subst P is first)
        | inr rest ↦ elim (shown_cases es s rows (rows_of n (start j input ∷ [])) n (let P : List FateRow → Type 0 = λ x. IsShownReady es s x n in subst P all rest)) [
          | inl one ↦ before one
          | inr two ↦ here two
        ]
      ]

  own_found : (n j since after : ℕ) (input : Container) (found all : List ℕ)
      → ((i : ℕ) (o : Container) → since ≤ i → goes_on activity.work j ≡ Ready j → dated_in es (part activity.name j ∷ []) ≡ Some (record { after = i + 1; output = o }) → Contains found i)
      → since ≤ n → ((i : ℕ) → Contains found i → Contains all i)
      → IsShownReady es s (record { scope = s; name = activity.name; fate = goes_on activity.work j } ∷ []) n → Contains all n
  own_found n j since after input found all own low more is =
      let it = shown_own es s activity (goes_on activity.work j) n is in
      let same : j ≡ it.0 = goes_ready activity.work j it.0 it.1 in
      let ready : goes_on activity.work j ≡ Ready j = it.1 ∙ ap Ready (sym same) in
      let dated_ : dated_in es (part activity.name j ∷ []) ≡ Some (record { after = n + 1; output = it.2 }) = ap (λ x. dated_in es (part activity.name x ∷ [])) same ∙ it.3 in
      more n (own n it.2 low ready dated_)

  -- the attempt that is next has given nothing
  stopped : (n j : ℕ) (input : Container) (rows : List FateRow) (left : ℕ) → give n j input ≡ None
      → (fate_from left (give n) t activity.work j input ≡ goes_on activity.work j) × (then_start t (give n j input) (λ out. starts left (give n) t (j + 1) (t.loops out)) ≡ [])
  stopped n j input rows zero none = (refl, rw none refl)
  stopped n j input rows (suc left) none = (rw none refl, rw none refl)

  still : (n j since after : ℕ) (input : Container) (rows : List FateRow) (before found all : List ℕ) → Goes ts depth (k n) g s a activity base j input rows
      → (left : ℕ) → fate_from left (give n) t activity.work j input ≡ fate_from most (give n) t activity.work 1 base
      → rows ++ rows_of n (starts (suc left) (give n) t j input) ≡ rows_of n (starts (suc most) (give n) t 1 base)
      → (fate_from left (give n) t activity.work j input ≡ goes_on activity.work j) × (then_start t (give n j input) (λ out. starts left (give n) t (j + 1) (t.loops out)) ≡ [])
      → ((i : ℕ) (o : Container) → since ≤ i → goes_on activity.work j ≡ Ready j → dated_in es (part activity.name j ∷ []) ≡ Some (record { after = i + 1; output = o }) → Contains found i)
      → (IsShownReady es s (rows_of n (start j input ∷ [])) n → Contains found n)
      → since ≤ n → ((i : ℕ) → Contains before i → Contains all i) → ((i : ℕ) → Contains found i → Contains all i)
      → (IsShownReady es s rows n → Contains before n)
      → IsOpenStill n all
  still n j since after input rows before found all goes left same shown ends own here low kept more earlier =
      let is = fate_is n j left input (goes_on activity.work j) same ends.0 in
      record {
        unsettled = λ settled. no_end (ap is_settled (sym (ap (λ f. ended f (outs n)) is ∙ ended_goes activity.work j (outs n))) ∙ settled);
        shown = shown_end n j input rows (goes_on activity.work j) all is (rows_end n j left input rows shown ends.1)
            (own_found n j since after input found all own low more)
            (λ x. kept n (earlier x)) (λ x. more n (here x));
      }

  abbrev joined_left : (xs ys : List ℕ) (i : ℕ) → Contains xs i → Contains (xs ++ ys) i
  joined_left xs ys i h = Contains-append_left xs ys i h

  open_more : (n : ℕ) (ready found : List ℕ) → IsOpenStill n ready → IsOpenStill n (ready ++ found)
  open_more n ready found is = record { unsettled = is.unsettled; shown = λ x. joined_left ready found n (is.shown x) }

  -- before attempt j has given anything
  still_here : (n since after j : ℕ) (input : Container) (ready : List ℕ) (out : Option Container) (known : ℕ) (found : List ℕ)
      → IsTold since after j input ready → IsWholeAttempt ts depth most es s activity j input after out known found → after ≤ n → give n j input ≡ None → IsOpenStill n (ready ++ found)
  still_here n since after j input ready out known found told tried_ low none =
      let was = told.goes n low in
      still n j after after input was.0 ready found (ready ++ found) was.1 was.1.left was.1.fate was.1.shown (stopped n j input was.0 was.1.left none)
      tried_.own (tried_.inside n low) low (λ i h. joined_left ready found i h) (λ i h. Contains-append_right ready found i h) was.2

  give_cases : (n j : ℕ) (input : Container) → (give n j input ≡ None) ⊎ ((o : Container) × (give n j input ≡ Some o))
  give_cases n j input = go (give n j input) refl
    where
      go : (o : Option Container) → give n j input ≡ o → (give n j input ≡ None) ⊎ ((o : Container) × (give n j input ≡ Some o))
      go None is = inl is
      go (Some o) is = inr (o, is)

  pub told_more : (since after j : ℕ) (input : Container) (ready : List ℕ) (out : Option Container) (known : ℕ) (found : List ℕ) (next : Container)
      → IsTold since after j input ready → j ≤ most → IsTimelyAttempt ts depth most es s activity j input after out known found → IsWholeAttempt ts depth most es s activity j input after out known found
      → turn_of g a activity base j out ≡ GoesOn next → IsTold since known (j + 1) next (ready ++ found)
  told_more since after j input ready out known found next told less timely tried_ turn =
      let second = timely.later in
      record {
        goes = λ n at_least.
            let early : after ≤ n = omega (arith, second, at_least) in
            let was = told.goes n early in
            let some_ = some_out j out next turn in (
              was.0 ++ rows_of n (start j input ∷ []),
              goes_more ts depth (k n) g s a activity base j input was.0 out _ next was.1 less (record { gave = some_.1 ∙ sym (timely.gave n some_.0 some_.1 at_least); shown = refl }) turn,
              λ x. elim (shown_cases es s was.0 (rows_of n (start j input ∷ [])) n x) [
                | inl one ↦ joined_left ready found n (was.2 one)
                | inr two ↦ Contains-append_right ready found n (tried_.inside n early two)
              ],
            );
        before = λ n low high. elim (cases_lt n after) [
          | inl earlier ↦ open_more n ready found (told.before n low earlier)
          | inr here ↦ elim (give_cases n j input) [
            | inl none ↦ still_here n since after j input ready out known found told tried_ here none
            | inr some_ ↦ absurd (too_late n some_.0 here some_.1 high)
          ]
        ];
      }
    where
      some_out : (j : ℕ) (o : Option Container) (next : Container) → turn_of g a activity base j o ≡ GoesOn next → (out : Container) × (o ≡ Some out)
      some_out j None next goes = let n : ⊥ = cc in absurd n
      some_out j (Some out) next goes = (out, refl)

      too_late : (n : ℕ) (o : Container) → after ≤ n → give n j input ≡ Some o → n < known → ⊥
      too_late n o low is high = let late = tried_.gave n o low is in let last = late.1 in omega (arith, last, high)

  -- the attempt stops the activity
  stop_fate : (j : ℕ) (o : Container) (f : Fate) (e : SourceEnd) → turn_of g a activity base j (Some o) ≡ Stops f e → (holds activity.exit o ≡ true) × (f ≡ Finished j)
  stop_fate j o f e stops = go (holds activity.exit o) refl stops
    where
      go : (b : Bool) → holds activity.exit o ≡ b → cond b (Stops (Finished j) (end.Finished o)) (GoesOn (looped (out-Graph g).loops a o base)) ≡ Stops f e → (holds activity.exit o ≡ true) × (f ≡ Finished j)
      go true is h = (is, cc)
      go false is h = let n : ⊥ = cc in absurd n

  pub told_stop : (since after j : ℕ) (input : Container) (ready : List ℕ) (out : Option Container) (known : ℕ) (found : List ℕ) (f : Fate) (e : SourceEnd)
      → IsTold since after j input ready → j ≤ most → IsTimelyAttempt ts depth most es s activity j input after out known found → IsWholeAttempt ts depth most es s activity j input after out known found
      → turn_of g a activity base j out ≡ Stops f e → AreWhole ts depth most es g s a activity base since e known (ready ++ found)
  told_stop since after j input ready out known found f e told less timely tried_ stops = record {
    ending = λ n low settled. elim (cases_lt n after) [
      | inl earlier ↦ absurd ((told.before n low earlier).unsettled settled)
      | inr here ↦ elim (give_cases n j input) [
        | inl none ↦ absurd ((still_here n since after j input ready out known found told tried_ here none).unsettled settled)
        | inr some_ ↦
            (let late = tried_.gave n some_.0 here some_.1 in
            let are = stopped_at n some_.0 here some_.1 in
            (are.end ∙ ap (λ x. ended x (outs n)) are.fate, late.1))
      ]
    ];
    inside = λ n low shown. elim (cases_lt n after) [
      | inl earlier ↦ joined_left ready found n ((told.before n low earlier).shown shown)
      | inr here ↦ elim (give_cases n j input) [
        | inl none ↦ (still_here n since after j input ready out known found told tried_ here none).shown shown
        | inr some_ ↦ finished n some_.0 here some_.1 shown
      ]
    ];
  }
    where
      stopped_at : (n : ℕ) (o : Container) (low : after ≤ n) → give n j input ≡ Some o → AreAttempts ts depth (k n) g s a activity base f e ((told.goes n low).0 ++ rows_of n (start j input ∷ []))
      stopped_at n o low is =
          let late = tried_.gave n o low is in
          let was = told.goes n low in
          goes_stop ts depth (k n) g s a activity base j input was.0 out _ f e was.1 less (record { gave = late.0 ∙ sym is; shown = refl }) stops

      finished : (n : ℕ) (o : Container) (low : after ≤ n) → give n j input ≡ Some o → IsShownReady es s (all_rows n) n → Contains (ready ++ found) n
      finished n o low is shown =
          let late = tried_.gave n o low is in
          let was = told.goes n low in
          let are = stopped_at n o low is in
          let by = stop_fate j o f e (rw late.0 at stops) in
          shown_end n j input was.0 (Finished j) (ready ++ found) (sym are.fate ∙ by.1) (sym are.shown)
          (λ own. (let it = shown_own es s activity (Finished j) n own in let wrong : Finished j ≡ Ready it.0 = it.1 in let m : ⊥ = cc in absurd m))
          (λ x. joined_left ready found n (was.2 x)) (λ x. Contains-append_right ready found n (tried_.inside n low x)) shown

  -- the attempt behind the last one that counts
  pub told_last : (since after j : ℕ) (input : Container) (ready : List ℕ) (e : SourceEnd) (known : ℕ) (all : List ℕ)
      → IsTold since after j input ready → j ≡ most + 1 → IsWholeLast ts depth most es s activity j input after ready all → AreWhole ts depth most es g s a activity base since e known all
  told_last since after j input ready e known all told last is = record {
    ending = λ n low settled. absurd ((open_at n low).unsettled settled);
    inside = λ n low shown. (open_at n low).shown shown;
  }
    where
      nothing : (n : ℕ) (o : Option Container) → then_start t o (λ out. starts zero (give n) t (j + 1) (t.loops out)) ≡ []
      nothing n None = refl
      nothing n (Some o) = go (holds activity.exit o)
        where
          go : (b : Bool) → cond {A = List Start} b [] [] ≡ []
          go true = refl
          go false = refl

      here : (n : ℕ) → after ≤ n → (rows : List FateRow) → Goes ts depth (k n) g s a activity base j input rows → (IsShownReady es s rows n → Contains ready n) → IsOpenStill n all
      here n low rows goes earlier = go goes.left goes.count goes.fate goes.shown
        where
          go : (left : ℕ) → left + j ≡ suc most → fate_from left (give n) t activity.work j input ≡ fate_from most (give n) t activity.work 1 base
              → rows ++ rows_of n (starts (suc left) (give n) t j input) ≡ rows_of n (starts (suc most) (give n) t 1 base) → IsOpenStill n all
          go (suc left) count same shown = absurd (omega arith)
          go zero count same shown = still n j after after input rows ready all all goes zero same shown (refl, nothing n (give n j input)) is.own (is.inside n low) low is.kept (λ i h. h) earlier

      open_at : (n : ℕ) → since ≤ n → IsOpenStill n all
      open_at n low = elim (cases_lt n after) [
        | inl earlier ↦ (let was = told.before n low earlier in record { unsettled = was.unsettled; shown = λ x. is.kept n (was.shown x) })
        | inr late ↦ (let was = told.goes n late in here n late was.0 was.1 was.2)
      ]
