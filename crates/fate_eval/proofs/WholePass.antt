-- A pass over a scope in the order of its graph: all that is so after this many completions is found.
use Rattle.std.proofs.Common.{◌≡◌, ◌≢◌, ◌⊎◌, ℕ, zero, suc, ◌+◌, ◌≤◌, ◌<◌, Bool, true, false, List, [], ◌∷◌, ◌++◌, length, set, get_or, Option, Some, None, refl, ap, sym, subst, ◌∙◌, arith, inl, inr}
use Rattle.std.proofs.Math.Path.{fun_ext}
use Rattle.std.proofs.lemmas.Bool.{cases_lt}
use Rattle.std.proofs.lemmas.Bool.Decides.{eqb_tells}
use Rattle.std.proofs.lemmas.List.Elements.{Contains-append_left, Contains-append_right, Contains-append_cases}
use Rattle.std.proofs.lemmas.Option.{slice_get_past, slice_get-get_or}
use Rattle.std.specs.Prelude.{slice_get, slice_index, unwrap_or}
use Rattle.std.specs.List.{All, Contains}
use Rattle.fate_laws.proofs.Complete.{settled_at}
use Rattle.fate_laws.proofs.Solutions.{step_keeps_ends}
use Rattle.fate_laws.proofs.Stays.{unsettled_past}
use Rattle.fate_laws.proofs.Wired.{fed_where_known}
use Rattle.fate_laws.specs.Layout.{IsLaid}
use Rattle.fate_laws.specs.Walks.{IsWired}
use Rattle.flow_model.specs.Fates.{Ends, is_settled}
use Rattle.flow_model.specs.ScopeContainers.{up_to, output_by, is_complete}
use Rattle.flow_model.specs.Scopes.{Known, tree_ends, output}
use Rattle.flow_model.specs.declared.graphs.Container.{Container}
use Rattle.flow_model.specs.declared.graphs.Graph.{Graph, out-Graph}
use Rattle.flow_model.specs.declared.graphs.Template.{Template}
use Rattle.flow_model.specs.declared.instances.FateRow.{FateRow}
use Rattle.flow_model.specs.declared.instances.Part.{Part}
use Rattle.flow_model.specs.declared.instances.Path.{Path}
use Rattle.flow_model.specs.declared.instances.SourceEnd.{SourceEnd}
use Rattle.flow_model.specs.declared.instances.SourceEnd.TheVariants.{Unsettled}
use Rattle.blocks_subprocs.specs.Ends.{ends_of}
use Rattle.fate_eval.specs.Entries.{dated_in, by_then, known_after}
use Rattle.fate_eval.specs.Timely.{IsShownReady, after_of}
use Rattle.fate_eval.specs.Whole.{IsWholeFound, IsWholePass, IsFedWhereKnown, Tells, TellsControls, TellsLines}
use Rattle.fate_eval.specs.declared.accepted.Entry.{Entry}
use Rattle.fate_eval.proofs.InOrder.{at_other, at_same, rows_at, rows_same, rows_are}
use Rattle.fate_eval.proofs.RowScopes.{from_flat, none_contained}

no_end : false ≡ true → ⊥
no_end h = cc

up_to_within : (n k a : ℕ) → Contains (up_to n k) a → a < n + k
up_to_within zero k a there = absurd (none_contained a there)
up_to_within (suc n) k a there = go (Contains-append_cases (k ∷ []) (up_to n (k + 1)) a there) (up_to_within n (k + 1) a)
  where
    one : (m : ℕ) → m < 1 → get_or (k ∷ []) m a ≡ a → k ≡ a
    one zero less is = is
    one (suc m) less is = absurd (omega arith)

    go : Contains (k ∷ []) a ⊎ Contains (up_to n (k + 1)) a → (Contains (up_to n (k + 1)) a → a < n + (k + 1)) → a < suc n + k
    go (inl here) rest = let same = one here.0 here.1 here.2 in omega (arith, same)
    go (inr later) rest = let r = rest later in omega (arith, r)

module _ (ts : List Template) (depth most : ℕ) (es : List Entry) (g : Graph) (input : Container) (s : Path) where
  abbrev known : ℕ → Known
  known n = known_after most es n

  abbrev given : ℕ → List Part → Option Container
  given n p = by_then n (dated_in es p)

  abbrev e_at : ℕ → Ends
  e_at n = tree_ends ts depth (known n) g input

  abbrev row_list : ℕ → ℕ → List FateRow
  row_list n a = rows_at ts depth most (given n) g input s a

  abbrev order : List ℕ
  order = (out-Graph g).wiring.order

  abbrev count : ℕ
  count = length (out-Graph g).activities

  -- all that is so of the activities that the pass has reached
  pub record IsToldTo (since i : ℕ) (ends : List SourceEnd) (afters ready : List ℕ) : Type 0 where
    pub tells : (n j : ℕ) → since ≤ n → j < i → Tells n ends afters (e_at n) (slice_index order j)
    pub inside : (n j : ℕ) → since ≤ n → j < i → IsShownReady es s (row_list n (slice_index order j)) n → Contains ready n

  pub told_to_first : (since : ℕ) (ends : List SourceEnd) (afters ready : List ℕ) → IsToldTo since 0 ends afters ready
  told_to_first since ends afters ready = record {
    tells = λ n j low below. absurd (omega (arith, below));
    inside = λ n j low below. absurd (omega (arith, below));
  }

  past_unsettled : (n b : ℕ) → is_settled (e_at n b) ≡ true → b < count
  past_unsettled n b settled = elim (cases_lt b count) [
    | inl inside ↦ inside
    | inr past ↦ absurd (no_end (ap is_settled (sym (unsettled_past ts (known n) (output ts depth) g input count b past)) ∙ settled))
  ]

  module _ (laid : IsLaid g) (wired : IsWired g) where
    fed_at : (n a : ℕ) → IsFedWhereKnown g (e_at n) a
    fed_at n a known_ = fed_where_known ts (known n) (output ts depth) g input order laid.flow (λ i d less v h. h) wired (past_unsettled n) a known_

    module _ (since i : ℕ) (less : i < length order) (ends : List SourceEnd) (afters ready : List ℕ) (told : IsToldTo since i ends afters ready) where
      controls_told : (n : ℕ) → since ≤ n → TellsControls n ends afters (e_at n) (out-Graph g).controls (slice_index order i)
      controls_told n low = λ m d h to.
          let source = laid.flow.ordered.forward i less m d h to in
          rw source.2 at (told.tells n source.0 low source.1)

      lines_told : (n : ℕ) → since ≤ n → TellsLines n ends afters (e_at n) (out-Graph g).lines (slice_index order i)
      lines_told n low = λ m d h to b from.
          let source = laid.flow.fed i less m d h to b from in
          rw source.2 at (told.tells n source.0 low source.1)

      pub told_to_more : (end : SourceEnd) (after : ℕ) (found : List ℕ) → length ends ≡ count → length afters ≡ count
          → IsWholeFound ts depth most es g input s since ends afters (slice_index order i) (slice_get (out-Graph g).activities (slice_index order i)) end after found
          → IsToldTo since (i + 1) (set ends (slice_index order i) end) (set afters (slice_index order i) after) (ready ++ found)
      told_to_more end after found long as_long is =
          let a = slice_index order i in
          let inside_ : a < count = laid.flow.ordered.in_range i 0 less in
          record {
            tells = λ n j low below settled. elim (eqb_tells (slice_index order j) a) [
              | inl same ↦
                  (let end_is : ends_of (set ends a end) (slice_index order j) ≡ end = rw same.1 (ap (λ o. unwrap_or o Unsettled) (at_same ends a end (omega (arith, long)))) in
                  let after_is : after_of (set afters a after) (slice_index order j) ≡ after = rw same.1 (ap (λ o. unwrap_or o 0) (at_same afters a after (omega (arith, as_long)))) in
                  let step = step_keeps_ends ts depth (known n) g input order laid.flow a in
                  let here : is_settled (e_at n a) ≡ true = rw same.1 at settled in
                  let now = is.ending n (e_at n) low (controls_told n low) (lines_told n low) (ap is_settled (sym step) ∙ here) in
                  (end_is ∙ now.0 ∙ sym step ∙ ap (e_at n) (sym same.1), rw after_is now.1))
              | inr other ↦
                  (let apart : j ≢ i = λ e. other.1 (ap (slice_index order) e) in
                  let end_is : ends_of (set ends a end) (slice_index order j) ≡ ends_of ends (slice_index order j) = ap (λ o. unwrap_or o Unsettled) (at_other ends a (slice_index order j) end other.1) in
                  let after_is : after_of (set afters a after) (slice_index order j) ≡ after_of afters (slice_index order j) = ap (λ o. unwrap_or o 0) (at_other afters a (slice_index order j) after other.1) in
                  let before = told.tells n j low (omega (arith, apart, below)) settled in
                  (end_is ∙ before.0, rw after_is before.1))
            ];
            inside = λ n j low below shown. elim (cases_lt j i) [
              | inl earlier ↦ Contains-append_left ready found n (told.inside n j low earlier shown)
              | inr late ↦
                  (let same : j ≡ i = omega (arith, late, below) in
                  let P : List FateRow → Type 0 = λ rows. IsShownReady es s rows n in
                  let here : IsShownReady es s (row_list n a) n = rw same at shown in
                  Contains-append_right ready found n
                  (is.inside n (e_at n) low (controls_told n low) (lines_told n low) (fed_at n a)
                  (subst P (sym (rows_same ts depth most (given n) g input s (e_at n) a (slice_get (out-Graph g).activities a) refl (λ m d h to. refl) (λ m d h to b from. refl))) here)))
            ];
          }

    pub told_to_all : (since : ℕ) (ends : List SourceEnd) (afters ready : List ℕ) (out : Option Container) (after : ℕ) → IsToldTo since (length order) ends afters ready
        → length ends ≡ count → length afters ≡ count → out ≡ output_by g input (ends_of ends) → ((n : ℕ) → since ≤ n → All (λ m. m ≤ n) afters → after ≤ n)
        → IsWholePass ts depth most es g input s since out after ready
    told_to_all since ends afters ready out after told long as_long is least = record {
      gave = λ n o low by.
          (let whole = complete n o by in
          let same : ends_of ends ≡ e_at n = fun_ext (λ b. same_at n low whole b (cases_lt b count)) in
          (is ∙ ap (output_by g input) same ∙ by, least n low (all_at n low whole)));
      inside = λ n low shown.
          (let one = from_flat (row_list n) (up_to count 0) _ (rw (rows_are ts depth most (given n) g input s) at shown.shown) in
          let less = up_to_within count 0 one.0 one.1.0 in
          let place = laid.flow.ordered.covers one.0 (omega (arith, less)) in
          told.inside n place.0 low place.1
          (record { scope = shown.scope; last = shown.last; rest = shown.rest; output = shown.output; item = shown.item; dated = shown.dated; shown = rw place.2 one.1.1 }));
    }
      where
        complete : (n : ℕ) (o : Container) → output_by g input (e_at n) ≡ Some o → is_complete g (e_at n) ≡ true
        complete n o by = go (is_complete g (e_at n)) refl
          where
            go : (b : Bool) → is_complete g (e_at n) ≡ b → is_complete g (e_at n) ≡ true
            go true h = h
            go false h = let m : None ≡ Some o = rw h at by in let x : ⊥ = cc in absurd x

        told_at : (n : ℕ) → since ≤ n → is_complete g (e_at n) ≡ true → (b : ℕ) → b < count → (ends_of ends b ≡ e_at n b) × (after_of afters b ≤ n)
        told_at n low whole b inside =
            let place = laid.flow.ordered.covers b inside in
            let settled = settled_at (e_at n) count 0 b whole (omega arith) (omega arith) in
            (rw place.2 at (told.tells n place.0 low place.1)) settled

        same_at : (n : ℕ) → since ≤ n → is_complete g (e_at n) ≡ true → (b : ℕ) → (b < count) ⊎ (count ≤ b) → ends_of ends b ≡ e_at n b
        same_at n low whole b (inl inside) = (told_at n low whole b inside).0
        same_at n low whole b (inr past) =
            ap (λ o. unwrap_or o Unsettled) (slice_get_past ends b (omega (arith, long)))
            ∙ sym (unsettled_past ts (known n) (output ts depth) g input count b past)

        all_at : (n : ℕ) → since ≤ n → is_complete g (e_at n) ≡ true → All (λ m. m ≤ n) afters
        all_at n low whole = λ b d inside.
            let here = (told_at n low whole b (omega (arith, as_long, inside))).1 in
            let is_ = ap (λ o. unwrap_or o 0) (slice_get-get_or afters b d inside) in
            (let P : ℕ → Type 0 = λ m. m ≤ n in subst P is_ here)
