-- The attempts of an activity, one after the other, by the first n completions.
use Rattle.std.proofs.Common.{◌≡◌, ℕ, zero, suc, ◌+◌, ◌≤◌, true, false, List, [], ◌∷◌, ◌++◌, length, Option, Some, None, refl, ap, sym, subst, ◌∙◌, ◌⊎◌, inl, inr, arith}
use Rattle.std.specs.List.{All, Contains, last_or}
use Rattle.std.proofs.lemmas.List.{get_or_default}
use Rattle.std.proofs.lemmas.List.Elements.{All-append, All-nil, All-contains, Contains-append_left, Contains-append_right}
use Rattle.flow_model.specs.Fates.{goes_on, tried, ended, is_settled}
use Rattle.flow_model.specs.Rows.{rows_below, below}
use Rattle.flow_model.specs.ScopeContainers.{graph_in}
use Rattle.flow_model.specs.Scopes.{Known, Gives, Trial, Start, then_start, starts, gives, trial, tries_on, output, part}
use Rattle.flow_model.specs.declared.graphs.Activity.{Activity}
use Rattle.flow_model.specs.declared.graphs.Container.{Container}
use Rattle.flow_model.specs.declared.graphs.Graph.{Graph}
use Rattle.flow_model.specs.declared.graphs.Template.{Template}
use Rattle.flow_model.specs.declared.instances.Fate.{Fate}
use Rattle.flow_model.specs.declared.instances.Fate.TheVariants.{Ready}
use Rattle.flow_model.specs.declared.instances.FateRow.{FateRow}
use Rattle.flow_model.specs.declared.instances.Path.{Path}
use Rattle.flow_model.specs.declared.instances.SourceEnd.{SourceEnd}
use Rattle.flow_model.specs.declared.instances.SourceEnd.TheVariants as end
use Rattle.fate_eval.specs.Entries.{known_after}
use Rattle.fate_eval.specs.Passing.{IsAttempt, rows_inside, turn_of}
use Rattle.fate_eval.specs.Timely.{IsShownReady, IsReadyAttempt, IsTimelyAttempt, IsTimelyLast, AreTimely, tried_rows}
use Rattle.fate_eval.specs.declared.accepted.Entry.{Entry}
use Rattle.fate_eval.specs.declared.passes.Turn.TheVariants.{Stops, GoesOn}
use Rattle.fate_eval.proofs.Turns.{Goes, goes_first, goes_more, goes_stop, rows_cons, tried_from, fate_from}

-- what is shown among some rows is shown among more
pub shown_more : (es : List Entry) (s : Path) (rows rows' : List FateRow) (i : ℕ) → ((r : FateRow) → Contains rows r → Contains rows' r) → IsShownReady es s rows i → IsShownReady es s rows' i
shown_more es s rows rows' i more is = record {
  scope = is.scope;
  last = is.last;
  rest = is.rest;
  output = is.output;
  item = is.item;
  dated = is.dated;
  shown = more _ is.shown;
}

-- the attempt behind the last one that counts, after those before it
pub last_timely : (ts : List Template) (depth most : ℕ) (es : List Entry) (s : Path) (activity : Activity) (j : ℕ) (input : Container) (since : ℕ) (before : List ℕ) (out : Option Container) (after : ℕ) (found : List ℕ)
    (e : SourceEnd) → e ≡ end.Unsettled → IsTimelyAttempt ts depth most es s activity j input since out after found → IsTimelyLast ts depth most es s activity j input since before e (before ++ found)
last_timely ts depth most es s activity j input since before out after found e is tried = record {
  ending = is;
  each = All-append (λ i. Contains before i ⊎ ((since ≤ i) × IsReadyAttempt ts depth most es s activity j input i)) before found
      (λ k d less. inl (k, less, get_or_default before k _ d less))
      (λ k d less. inr (tried.each k d less));
}

module _ (ts : List Template) (depth most : ℕ) (es : List Entry) (g : Graph) (s : Path) (a : ℕ) (activity : Activity) (base : Container) where
  abbrev k : ℕ → Known
  k n = known_after most es n

  abbrev give : ℕ → Gives
  give n = gives ts (k n) (output ts depth) activity.name activity.work

  abbrev t : Trial
  t = trial g a activity base

  abbrev all_rows : ℕ → List FateRow
  all_rows n = tried_rows ts depth most es s activity n (tries_on ts (k n) (output ts depth) g a activity base) (starts (suc most) (give n) t 1 base)

  abbrev rows_of : ℕ → List Start → List FateRow
  rows_of n xs = rows_below (rows_inside ts depth) (k n) activity (graph_in ts activity.work) xs s

  -- after this many completions attempt j is next, on this input
  pub record InTurn (since after j : ℕ) (input : Container) (ready : List ℕ) : Type 0 where
    pub later : since ≤ after
    pub goes : (n : ℕ) → after ≤ n → (rows : List FateRow) × Goes ts depth (k n) g s a activity base j input rows
    pub each : All (λ i. (since ≤ i) × IsShownReady es s (all_rows i) i) ready

  pub in_turn_first : (since : ℕ) → InTurn since since 1 base []
  in_turn_first since = record {
    later = omega arith;
    goes = λ n less. ([], goes_first ts depth (k n) g s a activity base);
    each = All-nil (λ i. (since ≤ i) × IsShownReady es s (all_rows i) i);
  }

  -- the attempt that is next is the last one, if it has given nothing
  stops_here : (n left j : ℕ) (input : Container) → give n j input ≡ None → fate_from left (give n) t activity.work j input ≡ goes_on activity.work j
  stops_here n zero j input none = refl
  stops_here n (suc left) j input none = rw none refl

  starts_on : (n left j : ℕ) (input : Container) (rows : List FateRow) → rows ++ rows_of n (starts (suc left) (give n) t j input) ≡ rows_of n (starts (suc most) (give n) t 1 base)
      → (r : FateRow) → Contains (rows_of n (record { attempt = j; input = input } ∷ [])) r → Contains (all_rows n) r
  starts_on n left j input rows shown r there =
      let start : Start = record { attempt = j; input = input } in
      let later = then_start t (give n j input) (λ out. starts left (give n) t (j + 1) (t.loops out)) in
      let here = Contains-append_left (rows_of n (start ∷ [])) (rows_of n later) r there in
      let from_here : Contains (rows_of n (start ∷ later)) r = rw (rows_cons (rows_inside ts depth) (k n) activity (graph_in ts activity.work) start later s) here in
      let all : Contains (rows_of n (starts (suc most) (give n) t 1 base)) r = rw (← shown) (Contains-append_right rows (rows_of n (start ∷ later)) r from_here) in
      let own : FateRow = record { scope = s; name = activity.name; fate = tried activity (length (tries_on ts (k n) (output ts depth) g a activity base)) (last_or None (tries_on ts (k n) (output ts depth) g a activity base)) } in
      Contains-append_right (own ∷ []) (rows_of n (starts (suc most) (give n) t 1 base)) r all

  -- a completion of the attempt that is next, or below it, is shown ready
  pub ready_in_turn : (i j : ℕ) (input : Container) (rows : List FateRow) → Goes ts depth (k i) g s a activity base j input rows
      → IsReadyAttempt ts depth most es s activity j input i → IsShownReady es s (all_rows i) i
  ready_in_turn i j input rows goes (inr below) = shown_more es s _ (all_rows i) i (starts_on i goes.left j input rows goes.shown) below
  ready_in_turn i j input rows goes (inl own) =
      let outs = tries_on ts (k i) (output ts depth) g a activity base in
      let zero_add : zero + length outs ≡ length outs = omega arith in
      let tried_is = rw zero_add at (tried_from activity (give i) t refl most 1 0 base None (omega arith) refl) in
      let fate_is : tried activity (length outs) (last_or None outs) ≡ Ready j = tried_is ∙ sym goes.fate ∙ stops_here i goes.left j input own.none ∙ own.open_ in
      record {
        scope = s;
        last = part activity.name j;
        rest = part activity.name j ∷ [];
        output = own.output;
        item = refl;
        dated = own.dated;
        shown = (let P : Fate → Type 0 = λ f. Contains (record { scope = s; name = activity.name; fate = f } ∷ rows_of i (starts (suc most) (give i) t 1 base)) (record { scope = s; name = activity.name; fate = Ready j })
            in subst P (sym fate_is) (0, omega arith, refl));
      }

  -- the activity goes on
  some_out : (j : ℕ) (o : Option Container) (next : Container) → turn_of g a activity base j o ≡ GoesOn next → (out : Container) × (o ≡ Some out)
  some_out j None next goes = let n : ⊥ = cc in absurd n
  some_out j (Some out) next goes = (out, refl)

  attempt_then : (n j : ℕ) (input : Container) (since after : ℕ) (out : Option Container) (o : Container) (found : List ℕ)
      → IsTimelyAttempt ts depth most es s activity j input since out after found → out ≡ Some o → after ≤ n
      → IsAttempt ts depth (k n) s activity j input out (rows_of n (record { attempt = j; input = input } ∷ []))
  attempt_then n j input since after out o found tried is less = record { gave = is ∙ sym (tried.gave n o is less); shown = refl }

  each_more : (since after j : ℕ) (input : Container) (ready : List ℕ) (out : Option Container) (known : ℕ) (found : List ℕ)
      → InTurn since after j input ready → IsTimelyAttempt ts depth most es s activity j input after out known found
      → All (λ i. (since ≤ i) × IsShownReady es s (all_rows i) i) (ready ++ found)
  each_more since after j input ready out known found turn tried =
      All-append (λ i. (since ≤ i) × IsShownReady es s (all_rows i) i) ready found turn.each
      (λ x d less.
      let here = tried.each x d less in
      let from_ : after ≤ _ = here.0 in
      let goes = turn.goes _ from_ in
      let first = turn.later in
      (omega (arith, from_, first), ready_in_turn _ j input goes.0 goes.1 here.1))

  pub in_turn_more : (since after j : ℕ) (input : Container) (ready : List ℕ) (out : Option Container) (known : ℕ) (found : List ℕ) (next : Container)
      → InTurn since after j input ready → j ≤ most → IsTimelyAttempt ts depth most es s activity j input after out known found
      → turn_of g a activity base j out ≡ GoesOn next → InTurn since known (j + 1) next (ready ++ found)
  in_turn_more since after j input ready out known found next turn less tried goes_ =
      let some_ = some_out j out next goes_ in
      let first = turn.later in
      let second = tried.later in
      record {
        later = omega (arith, first, second);
        goes = λ n at_least.
            let was = turn.goes n (omega (arith, second, at_least)) in (
              was.0 ++ rows_of n (record { attempt = j; input = input } ∷ []),
              goes_more ts depth (k n) g s a activity base j input was.0 out _ next was.1 less (attempt_then n j input after known out some_.0 found tried some_.1 at_least) goes_,
            );
        each = each_more since after j input ready out known found turn tried;
      }

  -- the attempt stops the activity
  settled_out : (j : ℕ) (o : Option Container) (f : Fate) (e : SourceEnd) → turn_of g a activity base j o ≡ Stops f e → is_settled e ≡ true → (out : Container) × (o ≡ Some out)
  settled_out j None f e stops settled =
      let same : e ≡ end.Unsettled = cc in
      let wrong : is_settled end.Unsettled ≡ true = rw same at settled in
      let n : ⊥ = cc in
      absurd n
  settled_out j (Some out) f e stops settled = (out, refl)

  pub in_turn_stop : (since after j : ℕ) (input : Container) (ready : List ℕ) (out : Option Container) (known : ℕ) (found : List ℕ) (f : Fate) (e : SourceEnd)
      → InTurn since after j input ready → j ≤ most → IsTimelyAttempt ts depth most es s activity j input after out known found
      → turn_of g a activity base j out ≡ Stops f e → AreTimely ts depth most es g s a activity base since e known (ready ++ found)
  in_turn_stop since after j input ready out known found f e turn less tried stops =
      let first = turn.later in
      let second = tried.later in
      record {
        later = λ settled. omega (arith, first, second);
        ending = λ n settled at_least.
            let some_ = settled_out j out f e stops settled in
            let was = turn.goes n (omega (arith, second, at_least)) in
            let are = goes_stop ts depth (k n) g s a activity base j input was.0 out _ f e was.1 less (attempt_then n j input after known out some_.0 found tried some_.1 at_least) stops in
            let outs = tries_on ts (k n) (output ts depth) g a activity base in
            sym (are.end ∙ ap (λ x. ended x outs) are.fate);
        each = each_more since after j input ready out known found turn tried;
      }

  -- the attempt behind the last one that counts
  pub in_turn_last : (since after j : ℕ) (input : Container) (ready : List ℕ) (e : SourceEnd) (known : ℕ) (all : List ℕ)
      → InTurn since after j input ready → IsTimelyLast ts depth most es s activity j input after ready e all
      → AreTimely ts depth most es g s a activity base since e known all
  in_turn_last since after j input ready e known all turn last =
      let unsettled : is_settled e ≡ true → ⊥ = λ settled. no_end (rw last.ending at settled) in
      record {
        later = λ settled. absurd (unsettled settled);
        ending = λ n settled at_least. absurd (unsettled settled);
        each = λ x d less. elim (last.each x d less) [
          | inl there ↦ All-contains (λ i. (since ≤ i) × IsShownReady es s (all_rows i) i) ready _ turn.each there
          | inr own ↦ (let from_ = own.0 in
              let goes = turn.goes _ from_ in
              let first = turn.later in
              (omega (arith, from_, first), ready_in_turn _ j input goes.0 goes.1 own.1))
        ];
      }
    where
      no_end : false ≡ true → ⊥
      no_end h = cc
