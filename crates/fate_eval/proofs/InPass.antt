-- A pass over a scope in the order of its graph, by the first n completions.
use Rattle.std.proofs.Common.{◌≡◌, ◌⊎◌, ℕ, zero, suc, ◌+◌, ◌≤◌, ◌<◌, Bool, true, false, List, [], ◌∷◌, ◌++◌, length, set, get_or, replicate, Option, Some, None, refl, ap, sym, ◌∙◌, arith, inl, inr, length-set}
use Rattle.std.proofs.Math.Path.{fun_ext}
use Rattle.std.proofs.lemmas.Bool.{cases_lt}
use Rattle.std.proofs.lemmas.Bool.Decides.{eqb_tells}
use Rattle.std.proofs.lemmas.List.Elements.{All-append, All-nil, Contains-append_left, Contains-append_right}
use Rattle.std.proofs.lemmas.Option.{slice_get_past, slice_get-get_or}
use Rattle.std.specs.Prelude.{slice_get, slice_index, unwrap_or}
use Rattle.std.specs.List.{All, Contains, flat_map}
use Rattle.fate_laws.proofs.Complete.{settled_at}
use Rattle.fate_laws.proofs.Solutions.{step_keeps_ends}
use Rattle.fate_laws.proofs.Stays.{unsettled_past}
use Rattle.flow_model.specs.Fates.{Ends}
use Rattle.flow_model.specs.Rows.{rows}
use Rattle.flow_model.specs.ScopeContainers.{up_to, output_by, is_complete}
use Rattle.flow_model.specs.Scopes.{Known, tree_ends, output}
use Rattle.flow_model.specs.declared.graphs.Container.{Container}
use Rattle.flow_model.specs.declared.graphs.Graph.{Graph, out-Graph}
use Rattle.flow_model.specs.declared.graphs.Template.{Template}
use Rattle.flow_model.specs.declared.instances.FateRow.{FateRow}
use Rattle.flow_model.specs.declared.instances.Part.{Part}
use Rattle.flow_model.specs.declared.instances.Path.{Path}
use Rattle.flow_model.specs.declared.instances.SourceEnd.{SourceEnd}
use Rattle.flow_model.specs.declared.instances.SourceEnd.TheVariants.{Unsettled}
use Rattle.blocks_subprocs.specs.Ends.{ends_of}
use Rattle.fate_laws.specs.Layout.{IsLaid}
use Rattle.fate_eval.specs.Entries.{dated_in, by_then, known_after}
use Rattle.fate_eval.specs.Timely.{IsShownReady, IsTimelyFound, IsTimelyPass, Knows, after_of}
use Rattle.fate_eval.specs.declared.accepted.Entry.{Entry}
use Rattle.fate_eval.proofs.InOrder.{at_other, at_same, rows_at, rows_same, rows_are}
use Rattle.fate_eval.proofs.InTurn.{shown_more}

none_yet : (n b : ℕ) → ends_of (replicate n Unsettled) b ≡ Unsettled
none_yet zero b = refl
none_yet (suc n) zero = refl
none_yet (suc n) (suc b) = none_yet n b

in_up_to : (n k a : ℕ) → k ≤ a → a < n + k → Contains (up_to n k) a
in_up_to zero k a low high = absurd (omega arith)
in_up_to (suc n) k a low high = elim (cases_lt k a) [
  | inl more ↦ Contains-append_right (k ∷ []) (up_to n (k + 1)) a (in_up_to n (k + 1) a (omega arith) (omega arith))
  | inr less ↦ (0, omega arith, omega arith)
]

in_flat : {X Y : Type 0} (f : X → List Y) (xs : List X) (i : ℕ) (d : X) (y : Y) → i < length xs → Contains (f (get_or xs i d)) y → Contains (flat_map f xs) y
in_flat f [] i d y less there = absurd (omega arith)
in_flat f (x ∷ xs) zero d y less there = Contains-append_left (f x) (flat_map f xs) y there
in_flat f (x ∷ xs) (suc i) d y less there = Contains-append_right (f x) (flat_map f xs) y (in_flat f xs i d y (omega arith) there)

module _ (ts : List Template) (depth most : ℕ) (es : List Entry) (g : Graph) (input : Container) (s : Path) where
  abbrev known : ℕ → Known
  known n = known_after most es n

  abbrev given : ℕ → List Part → Option Container
  given n p = by_then n (dated_in es p)

  abbrev e_at : ℕ → Ends
  e_at n = tree_ends ts depth (known n) g input

  abbrev all_rows : ℕ → List FateRow
  all_rows n = rows ts depth (known n) g input s

  abbrev order : List ℕ
  order = (out-Graph g).wiring.order

  abbrev count : ℕ
  count = length (out-Graph g).activities

  -- a pass that has come so far, with the number of completions after which each end is so
  pub record InPass (since : ℕ) (ends : List SourceEnd) (afters ready : List ℕ) : Type 0 where
    pub long : length ends ≡ count
    pub as_long : length afters ≡ count
    pub knows : (n : ℕ) → Knows n ends afters (e_at n)
    pub each : All (λ i. (since ≤ i) × IsShownReady es s (all_rows i) i) ready

  no_end : false ≡ true → ⊥
  no_end h = cc

  pub in_pass_first : (since : ℕ) (ends : List SourceEnd) (afters : List ℕ) → ends ≡ replicate count Unsettled → length ends ≡ count → length afters ≡ count → InPass since ends afters []
  in_pass_first since ends afters is long as_long = record {
    long = long;
    as_long = as_long;
    knows = λ n b settled less. absurd (no_end (rw (is, none_yet count b) at settled));
    each = All-nil (λ i. (since ≤ i) × IsShownReady es s (all_rows i) i);
  }

  -- a row of an activity is one of the scope
  in_scope : (n a : ℕ) → a < count → (r : FateRow) → Contains (rows_at ts depth most (given n) g input s a) r → Contains (all_rows n) r
  in_scope n a inside r there =
      let at = in_up_to count 0 a (omega arith) (omega arith) in
      let here : Contains (rows_at ts depth most (given n) g input s (get_or (up_to count 0) at.0 a)) r = rw at.2 there in
      rw (rows_are ts depth most (given n) g input s) (in_flat (rows_at ts depth most (given n) g input s) (up_to count 0) at.0 a r at.1 here)

  pub in_pass_more : (since i : ℕ) (ends : List SourceEnd) (afters ready : List ℕ) (end : SourceEnd) (after : ℕ) (found : List ℕ) → IsLaid g → i < length order → InPass since ends afters ready
      → IsTimelyFound ts depth most es g input s since ends afters (slice_index order i) (slice_get (out-Graph g).activities (slice_index order i)) end after found
      → InPass since (set ends (slice_index order i) end) (set afters (slice_index order i) after) (ready ++ found)
  in_pass_more since i ends afters ready end after found laid less pass is =
      let a = slice_index order i in
      let inside : a < count = laid.flow.ordered.in_range i 0 less in
      let in_ends : a < length ends = omega (arith, pass.long) in
      let in_afters : a < length afters = omega (arith, pass.as_long) in
      record {
        long = length-set ends a end ∙ pass.long;
        as_long = length-set afters a after ∙ pass.as_long;
        knows = λ n b settled early. elim (eqb_tells b a) [
          | inl same ↦
              (let end_is : ends_of (set ends a end) b ≡ end = rw same.1 (ap (λ o. unwrap_or o Unsettled) (at_same ends a end in_ends)) in
              let after_is : after_of (set afters a after) b ≡ after = rw same.1 (ap (λ o. unwrap_or o 0) (at_same afters a after in_afters)) in
              let now = is.ending n (e_at n) (pass.knows n) (rw end_is at settled) (rw after_is at early) in
              rw (end_is, same.1) (step_keeps_ends ts depth (known n) g input order laid.flow a ∙ now))
          | inr other ↦
              (let end_is : ends_of (set ends a end) b ≡ ends_of ends b = ap (λ o. unwrap_or o Unsettled) (at_other ends a b end other.1) in
              let after_is : after_of (set afters a after) b ≡ after_of afters b = ap (λ o. unwrap_or o 0) (at_other afters a b after other.1) in
              rw end_is (pass.knows n b (rw end_is at settled) (rw after_is at early)))
        ];
        each = All-append (λ i. (since ≤ i) × IsShownReady es s (all_rows i) i) ready found pass.each
            (λ x d within.
            let here = is.each x d within in (
              here.0,
              shown_more es s _ (all_rows _) _
                  (λ r there. in_scope _ a inside r
                  (rw (rows_same ts depth most (given _) g input s (e_at _) a (slice_get (out-Graph g).activities a) refl (λ m c low to. refl) (λ m c low to b from. refl)) at there))
                  (here.1 (e_at _) (pass.knows _)),
            ));
      }

  -- a complete scope
  pub in_pass_all : (since : ℕ) (ends : List SourceEnd) (afters ready : List ℕ) (out : Option Container) (after : ℕ) → InPass since ends afters ready
      → out ≡ output_by g input (ends_of ends) → since ≤ after → All (λ n. n ≤ after) afters
      → IsTimelyPass ts depth most es g input s since out after ready
  in_pass_all since ends afters ready out after pass is later all = record {
    later = later;
    gave = λ n o some_ less.
        (let by : output_by g input (ends_of ends) ≡ Some o = sym is ∙ some_ in
        let same : e_at n ≡ ends_of ends = fun_ext (λ b. ended_at n less (complete o by) b (cases_lt b count)) in
        ap (output_by g input) same ∙ by);
    each = pass.each;
  }
    where
      complete : (o : Container) → output_by g input (ends_of ends) ≡ Some o → is_complete g (ends_of ends) ≡ true
      complete o by = go (is_complete g (ends_of ends)) refl
        where
          go : (b : Bool) → is_complete g (ends_of ends) ≡ b → is_complete g (ends_of ends) ≡ true
          go true is = is
          go false is = let n : None ≡ Some o = rw is at by in let m : ⊥ = cc in absurd m

      after_at : (b : ℕ) → b < count → after_of afters b ≤ after
      after_at b inside =
          let in_afters : b < length afters = omega (arith, pass.as_long) in
          let here = all b 0 in_afters in
          let is = ap (λ o. unwrap_or o 0) (slice_get-get_or afters b 0 in_afters) in
          rw is here

      ended_at : (n : ℕ) → after ≤ n → is_complete g (ends_of ends) ≡ true → (b : ℕ) → (b < count) ⊎ (count ≤ b) → e_at n b ≡ ends_of ends b
      ended_at n less whole b (inl inside) =
          let settled = settled_at (ends_of ends) count 0 b whole (omega arith) (omega arith) in
          let early = after_at b inside in
          pass.knows n b settled (omega (arith, early, less))
      ended_at n less whole b (inr past) =
          unsettled_past ts (known n) (output ts depth) g input count b past
          ∙ sym (ap (λ o. unwrap_or o Unsettled) (slice_get_past ends b (omega (arith, pass.long))))
