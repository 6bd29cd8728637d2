-- A pass over a scope in the order of its graph.
use Rattle.std.proofs.Common.{◌≡◌, ◌≢◌, ℕ, zero, suc, ◌+◌, ◌≤◌, ◌<◌, ◌&&◌, List, [], ◌∷◌, ◌++◌, length, set, Option, Some, None, refl, ap, sym, ◌∙◌, arith, inl, inr, append_assoc, length-append, length-set}
use Rattle.std.proofs.Math.Path.{fun_ext}
use Rattle.std.proofs.lemmas.Bool.{cases_lt}
use Rattle.std.proofs.lemmas.Bool.Decides.{eqb_tells}
use Rattle.std.proofs.lemmas.Option.{slice_get_past}
use Rattle.std.specs.Prelude.{slice_get, slice_index, unwrap_or, if◌then◌else◌}
use Rattle.std.specs.List.{flat_map}
use Rattle.std.specs.Option.{option_map_or}
use Rattle.dead_paths.proofs.Places.{here}
use Rattle.fate_laws.proofs.Forward.{SameControls, SameLines, values_same, is_fed_same, forward}
use Rattle.fate_laws.proofs.Lines.{fed_same}
use Rattle.fate_laws.proofs.Solutions.{step_keeps_ends}
use Rattle.flow_model.specs.Fates.{Ends, joined, fate_by, is_open}
use Rattle.flow_model.specs.Rows.{rows_of, rows}
use Rattle.flow_model.specs.ScopeContainers.{base_of, up_to}
use Rattle.flow_model.specs.Scopes.{Known, gives, trial, starts, is_fed, tries_on, attempts_at, tree_ends, output}
use Rattle.flow_model.specs.declared.graphs.Activity.{Activity}
use Rattle.flow_model.specs.declared.graphs.Container.{Container}
use Rattle.flow_model.specs.declared.graphs.Graph.{Graph, out-Graph}
use Rattle.flow_model.specs.declared.graphs.MapEnd.TheVariants.{Activity as At}
use Rattle.flow_model.specs.declared.graphs.Template.{Template}
use Rattle.flow_model.specs.declared.instances.FateRow.{FateRow}
use Rattle.flow_model.specs.declared.instances.Path.{Path}
use Rattle.flow_model.specs.declared.instances.SourceEnd.{SourceEnd}
use Rattle.flow_model.specs.declared.instances.SourceEnd.TheVariants.{Unsettled}
use Rattle.blocks_subprocs.specs.Ends.{ends_of}
use Rattle.fate_eval.specs.Entries.{known_by}
use Rattle.fate_laws.specs.Layout.{IsLaid}
use Rattle.fate_eval.specs.Passing.{IsFound, fate_by_ends, end_by_ends, starts_by_ends, rows_by_ends, rows_inside}
use Rattle.flow_model.specs.declared.instances.Part.{Part}

-- what stands at a place after another was written
pub at_other : {X : Type 0} (xs : List X) (i j : ℕ) (x : X) → (j ≡ i → ⊥) → slice_get (set xs i x) j ≡ slice_get xs j
at_other [] i j x other = refl
at_other (y ∷ xs) zero zero x other = absurd (other refl)
at_other (y ∷ xs) zero (suc j) x other = refl
at_other (y ∷ xs) (suc i) zero x other = refl
at_other (y ∷ xs) (suc i) (suc j) x other = at_other xs i j x (λ e. other (ap suc e))

pub at_same : {X : Type 0} (xs : List X) (i : ℕ) (x : X) → i < length xs → slice_get (set xs i x) i ≡ Some x
at_same [] i x less = absurd (omega arith)
at_same (y ∷ xs) zero x less = refl
at_same (y ∷ xs) (suc i) x less = at_same xs i x (omega arith)

-- lists in a row, one for each activity
flat_from : {V R : Type 0} (items : V → List R) (F : ℕ → List R) (before rest : List V) (n : ℕ) → length before ≡ n
    → ((a : ℕ) → n ≤ a → a < n + length rest → option_map_or items (slice_get (before ++ rest) a) [] ≡ F a)
    → flat_map items rest ≡ flat_map F (up_to (length rest) n)
flat_from items F before [] n long same = refl
flat_from items F before (v ∷ rest) n long same =
    let first : items v ≡ F n = ap (λ o. option_map_or items o []) (sym (here before v rest n long)) ∙ same n (omega arith) (omega arith) in
    let later : (a : ℕ) → n + 1 ≤ a → a < (n + 1) + length rest → option_map_or items (slice_get ((before ++ v ∷ []) ++ rest) a) [] ≡ F a
    = λ a low high. rw append_assoc (same a (omega arith) (omega arith)) in
    rw (first, flat_from items F (before ++ v ∷ []) rest (n + 1) (omega (arith, length-append before (v ∷ []))) later) refl

module _ (ts : List Template) (depth most : ℕ) (given : List Part → Option Container) (g : Graph) (input : Container) (s : Path) where
  abbrev pub k : Known
  k = known_by most given

  abbrev pub e* : Ends
  e* = tree_ends ts depth k g input

  abbrev pub rows_at : ℕ → List FateRow
  rows_at a = rows_of ts depth (rows_inside ts depth) k g input s a (slice_get (out-Graph g).activities a)

  -- a pass that has come so far in the order
  pub record Passes {V : Type 0} (items : V → List FateRow) (i : ℕ) (ends : List SourceEnd) (found : List V) : Type 0 where
    pub long : length ends ≡ length (out-Graph g).activities
    pub as_long : length found ≡ length (out-Graph g).activities
    pub right : (j : ℕ) → j < i → ends_of ends (slice_index (out-Graph g).wiring.order j) ≡ e* (slice_index (out-Graph g).wiring.order j)
    pub shown : (j : ℕ) → j < i → option_map_or items (slice_get found (slice_index (out-Graph g).wiring.order j)) [] ≡ rows_at (slice_index (out-Graph g).wiring.order j)

  base_same : (e : Ends) (a : ℕ) (activity : Activity) → SameLines (out-Graph g).lines a e e* → base_of g activity a input e ≡ base_of g activity a input e*
  base_same e a activity lines = fed_same (out-Graph g).lines (At a) input e* e _ (λ i d h to b from. lines i d h to b from)

  outs_same : (e : Ends) (a : ℕ) (o : Option Activity) → SameLines (out-Graph g).lines a e e*
      → attempts_at ts k (output ts depth) g input e a o ≡ attempts_at ts k (output ts depth) g input e* a o
  outs_same e a None lines = refl
  outs_same e a (Some activity) lines =
      rw (is_fed_same (out-Graph g).lines a e e* lines)
      (ap (λ c. if is_fed (out-Graph g).lines a e* then tries_on ts k (output ts depth) g a activity c else []) (base_same e a activity lines))

  fate_same : (e : Ends) (a : ℕ) (activity : Activity) → SameControls (out-Graph g).controls a e e* → SameLines (out-Graph g).lines a e e*
      → fate_by_ends ts depth k g input e a (Some activity) ≡ fate_by_ends ts depth k g input e* a (Some activity)
  fate_same e a activity controls lines =
      rw (outs_same e a (Some activity) lines)
      (ap (λ vs. fate_by activity (joined activity.join vs) (attempts_at ts k (output ts depth) g input e* a (Some activity)))
      (values_same k (out-Graph g).controls e e* a (out-Graph g).controls controls))

  starts_same : (e : Ends) (a : ℕ) (activity : Activity) → SameControls (out-Graph g).controls a e e* → SameLines (out-Graph g).lines a e e*
      → starts_by_ends ts depth k g input e a activity ≡ starts_by_ends ts depth k g input e* a activity
  starts_same e a activity controls lines =
      rw (fate_same e a activity controls lines, is_fed_same (out-Graph g).lines a e e* lines)
      (ap (λ c. if is_open (fate_by_ends ts depth k g input e* a (Some activity)) && is_fed (out-Graph g).lines a e*
      then starts (suc most) (gives ts k (output ts depth) activity.name activity.work) (trial g a activity c) 1 c else []) (base_same e a activity lines))

  pub rows_same : (e : Ends) (a : ℕ) (o : Option Activity) → slice_get (out-Graph g).activities a ≡ o → SameControls (out-Graph g).controls a e e* → SameLines (out-Graph g).lines a e e*
      → rows_by_ends ts depth k g input s e a o ≡ rows_of ts depth (rows_inside ts depth) k g input s a o
  rows_same e a None is controls lines = refl
  rows_same e a (Some activity) is controls lines =
      rw (starts_same e a activity controls lines, fate_same e a activity controls lines, is) refl

  right_at : (ends : List SourceEnd) (a : ℕ) (end : SourceEnd) (b : ℕ) → a < length ends → end ≡ e* a → (b ≢ a → ends_of ends b ≡ e* b) → ends_of (set ends a end) b ≡ e* b
  right_at ends a end b less is before = elim (eqb_tells b a) [
    | inl same ↦ rw same.1 (ap (λ o. unwrap_or o Unsettled) (at_same ends a end less) ∙ is)
    | inr other ↦ ap (λ o. unwrap_or o Unsettled) (at_other ends a b end other.1) ∙ before other.1
  ]

  shown_at : {V : Type 0} (items : V → List FateRow) (found : List V) (a : ℕ) (v : V) (b : ℕ) → a < length found → items v ≡ rows_at a
      → (b ≢ a → option_map_or items (slice_get found b) [] ≡ rows_at b) → option_map_or items (slice_get (set found a v) b) [] ≡ rows_at b
  shown_at items found a v b less is before = elim (eqb_tells b a) [
    | inl same ↦ rw same.1 (ap (λ o. option_map_or items o []) (at_same found a v less) ∙ is)
    | inr other ↦ ap (λ o. option_map_or items o []) (at_other found a b v other.1) ∙ before other.1
  ]

  pub rows_are : rows ts depth k g input s ≡ flat_map rows_at (up_to (length (out-Graph g).activities) 0)
  rows_are = go depth
    where
      go : (d : ℕ) → rows ts d k g input s ≡ flat_map (λ a. rows_of ts d (rows_inside ts d) k g input s a (slice_get (out-Graph g).activities a)) (up_to (length (out-Graph g).activities) 0)
      go zero = refl
      go (suc d) = refl

  module _ (laid : IsLaid g) where
    abbrev order : List ℕ
    order = (out-Graph g).wiring.order

    controls_before : (i : ℕ) → i < length order → (e : Ends) → ((j : ℕ) → j < i → e (slice_index order j) ≡ e* (slice_index order j))
        → SameControls (out-Graph g).controls (slice_index order i) e e*
    controls_before i less e same = λ n d h to.
        let source = laid.flow.ordered.forward i less n d h to in
        rw source.2 at (same source.0 source.1)

    lines_before : (i : ℕ) → i < length order → (e : Ends) → ((j : ℕ) → j < i → e (slice_index order j) ≡ e* (slice_index order j))
        → SameLines (out-Graph g).lines (slice_index order i) e e*
    lines_before i less e same = λ n d h to b from.
        let source = laid.flow.fed i less n d h to b from in
        rw source.2 at (same source.0 source.1)

    end_right : (i : ℕ) → i < length order → (e : Ends) → ((j : ℕ) → j < i → e (slice_index order j) ≡ e* (slice_index order j))
        → end_by_ends ts depth k g input e (slice_index order i) (slice_get (out-Graph g).activities (slice_index order i)) ≡ e* (slice_index order i)
    end_right i less e same =
        forward ts k (output ts depth) g input order laid.flow i less e e* same
        ∙ sym (step_keeps_ends ts depth k g input order laid.flow (slice_index order i))

    module _ {V : Type 0} (items : V → List FateRow) where
      pub passes_more : (i : ℕ) (ends : List SourceEnd) (found : List V) (end : SourceEnd) (v : V) → i < length order
          → Passes items i ends found
          → IsFound ts depth k g input s (ends_of ends) (slice_index order i) (slice_get (out-Graph g).activities (slice_index order i)) end (items v)
          → Passes items (i + 1) (set ends (slice_index order i) end) (set found (slice_index order i) v)
      passes_more i ends found end v less passes is =
          let a = slice_index order i in
          let inside : a < length (out-Graph g).activities = laid.flow.ordered.in_range i 0 less in
          let in_ends : a < length ends = omega (arith, passes.long) in
          let in_found : a < length found = omega (arith, passes.as_long) in
          let end_is : end ≡ e* a = is.ending ∙ end_right i less (ends_of ends) passes.right in
          let rows_is : items v ≡ rows_at a
          = is.shown ∙ rows_same (ends_of ends) a (slice_get (out-Graph g).activities a) refl (controls_before i less (ends_of ends) passes.right) (lines_before i less (ends_of ends) passes.right) in
          record {
            long = length-set ends a end ∙ passes.long;
            as_long = length-set found a v ∙ passes.as_long;
            right = λ j below. right_at ends a end (slice_index order j) in_ends end_is
                (λ other. let apart : j ≢ i = λ e. other (ap (slice_index order) e) in passes.right j (omega arith));
            shown = λ j below. shown_at items found a v (slice_index order j) in_found rows_is
                (λ other. let apart : j ≢ i = λ e. other (ap (slice_index order) e) in passes.shown j (omega arith));
          }

      pub passes_all : (ends : List SourceEnd) (found : List V) → Passes items (length order) ends found
          → (ends_of ends ≡ e*) × (flat_map items found ≡ rows ts depth k g input s)
      passes_all ends found passes = (
        fun_ext (λ a. elim (cases_lt a (length (out-Graph g).activities)) [
          | inl inside ↦ (let at = laid.flow.ordered.covers a inside in rw at.2 at (passes.right at.0 at.1))
          | inr past ↦ (let none = slice_get_past (out-Graph g).activities a past in
              ap (λ o. unwrap_or o Unsettled) (slice_get_past ends a (omega (arith, passes.long)))
              ∙ sym (step_keeps_ends ts depth k g input order laid.flow a ∙ rw none refl))
        ]),
        flat_from items rows_at [] found 0 refl
            (λ a low high. let at = laid.flow.ordered.covers a (omega (arith, passes.as_long)) in rw at.2 at (passes.shown at.0 at.1))
            ∙ rw (passes.as_long, rows_are) refl,
      )
