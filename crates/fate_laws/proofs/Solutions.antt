-- The fates by the completions alone satisfy the plain equations, and no others do.
use Rattle.std.proofs.Common.{◌≡◌, ℕ, zero, suc, ◌<◌, ◌≤◌, Bool, true, false, List, length, refl, sym, ap, ◌∙◌, Option, Some, None, arith, inl, inr}
use Rattle.std.proofs.lemmas.Bool.{cases_lt}
use Rattle.std.proofs.lemmas.Option.{slice_get_cases}
use Rattle.std.specs.Prelude.{◌≢◌, is_none, slice_get, slice_index}
use Rattle.std.specs.List.{All}
use Rattle.flow_model.specs.declared.graphs.Activity.{Activity}
use Rattle.flow_model.specs.declared.graphs.Container.{Container}
use Rattle.flow_model.specs.declared.graphs.Graph.{Graph, out-Graph}
use Rattle.flow_model.specs.declared.graphs.MapEnd.TheVariants.{Activity as At}
use Rattle.flow_model.specs.declared.graphs.Template.{Template}
use Rattle.flow_model.specs.declared.instances.Fate.{Fate}
use Rattle.flow_model.specs.declared.instances.SourceEnd.{SourceEnd}
use Rattle.flow_model.specs.declared.instances.SourceEnd.TheVariants as end
use Rattle.flow_model.specs.Fates.{Ends, fate_by, ended, is_settled, joined}
use Rattle.flow_model.specs.ScopeContainers.{base_of}
use Rattle.flow_model.specs.Scopes.{Known, all_of, is_fed, tries_on, attempts_at, step, output, tree_ends, tree_fate}
use Rattle.fate_laws.specs.Equations.{values_into, join_of, outputs_of, Solves, AreFates}
use Rattle.fate_laws.specs.Orders.{IsFlow}
use Rattle.fate_laws.specs.Walks.{IsWired}
use Rattle.fate_laws.specs.WellFormed.{Well}
use Rattle.fate_laws.proofs.Forward.{SameControls, SameLines, values_same, forward}
use Rattle.fate_laws.proofs.Lines.{fed_same}
use Rattle.fate_laws.proofs.PlainFates.{fate_in_words, one_fate, end_in_words, one_end}
use Rattle.fate_laws.proofs.Rounds.{solved, unique}
use Rattle.fate_laws.proofs.Stays.{unsettled_past}
use Rattle.fate_laws.proofs.Steps.{fed_true}
use Rattle.fate_laws.proofs.Wired.{fed_where_known, known_values}

pub activity_at : (g : Graph) (a : ℕ) → a < length (out-Graph g).activities → (activity : Activity) × (slice_get (out-Graph g).activities a ≡ Some activity)
activity_at g a inside = elim ((slice_get_cases (out-Graph g).activities a).1) [ inl p ↦ (p.0, p.2) | inr past ↦ absurd (omega (arith, inside, past.0)) ]

-- ---- a step changes nothing

module _ (ts : List Template) (depth : ℕ) (k : Known) (g : Graph) (input : Container) (order : List ℕ) (flow : IsFlow g order) where
  abbrev next : Ends → Ends
  next = step ts k (output ts depth) g input

  long : length order ≤ length (out-Graph g).activities
  long = omega (arith, flow.ordered.long)

  kept_inside : (a : ℕ) → a < length (out-Graph g).activities → tree_ends ts depth k g input a ≡ next (tree_ends ts depth k g input) a
  kept_inside a inside =
      let place = flow.ordered.covers a inside in
      rw place.2 at (solved next order (forward ts k (output ts depth) g input order flow) (length (out-Graph g).activities) long place.0 place.1)

  kept_past : (a : ℕ) → length (out-Graph g).activities ≤ a → tree_ends ts depth k g input a ≡ next (tree_ends ts depth k g input) a
  kept_past a past =
      unsettled_past ts k (output ts depth) g input (length (out-Graph g).activities) a past
      ∙ sym (unsettled_past ts k (output ts depth) g input (suc (length (out-Graph g).activities)) a past)

  pub step_keeps_ends : (a : ℕ) → tree_ends ts depth k g input a ≡ next (tree_ends ts depth k g input) a
  step_keeps_ends a = elim (cases_lt a (length (out-Graph g).activities)) [ inl inside ↦ kept_inside a inside | inr past ↦ kept_past a past ]

  pub only_ends : (e : Ends) → ((a : ℕ) → a < length (out-Graph g).activities → e a ≡ next e a)
      → (a : ℕ) → a < length (out-Graph g).activities → e a ≡ tree_ends ts depth k g input a
  only_ends e solves a inside =
      let place = flow.ordered.covers a inside in
      rw place.2 at
      (unique next order (forward ts k (output ts depth) g input order flow) e
      (λ j less. solves (slice_index order j) (flow.ordered.in_range j 0 less))
      (length (out-Graph g).activities) long (length order) (omega arith) place.0 place.1)

-- ---- the condition on what feeds an activity may be left out

pub settled_inside : (ts : List Template) (depth : ℕ) (k : Known) (g : Graph) (input : Container) (b : ℕ)
    → is_settled (tree_ends ts depth k g input b) ≡ true → b < length (out-Graph g).activities
settled_inside ts depth k g input b s = elim (cases_lt b (length (out-Graph g).activities)) [
  | inl inside ↦ inside
  | inr past ↦ absurd (no_end (sym (ap is_settled (unsettled_past ts k (output ts depth) g input (length (out-Graph g).activities) b past)) ∙ s))
]
  where
    no_end : false ≡ true → ⊥
    no_end h = cc

known_join : (v : Option Bool) → v ≢ None → is_none v ≡ false
known_join None h = absurd (h refl)
known_join (Some b) h = refl

module _ (ts : List Template) (depth : ℕ) (k : Known) (g : Graph) (input : Container) (order : List ℕ) (flow : IsFlow g order) (wired : IsWired g) where
  abbrev ends : Ends
  ends = tree_ends ts depth (all_of k) g input

  abbrev all_outputs : ℕ → Activity → List Container
  all_outputs a activity = outputs_of ts depth (all_of k) g input ends a activity

  -- those of the definition, with the condition
  abbrev fed_outputs : ℕ → Activity → List Container
  fed_outputs a activity = attempts_at ts (all_of k) (output ts depth) g input ends a (Some activity)

  fed : (a : ℕ) (activity : Activity) → is_none (join_of g ends a activity) ≡ false → is_fed (out-Graph g).lines a ends ≡ true
  fed a activity known =
      fed_where_known ts (all_of k) (output ts depth) g input order flow (λ n d less v h. h) wired (settled_inside ts depth (all_of k) g input) a
      (known_values activity (values_into (out-Graph g).controls ends a) known)

  pub sources_settled : (a : ℕ) (activity : Activity) → join_of g ends a activity ≢ None
      → All (λ line. line.to ≡ At a → (b : ℕ) → line.from ≡ At b → is_settled (ends b) ≡ true) (out-Graph g).lines
  sources_settled a activity known = fed_true (out-Graph g).lines a ends (fed a activity (known_join (join_of g ends a activity) known))

  same_outputs : (a : ℕ) (activity : Activity) → is_none (join_of g ends a activity) ≡ false → fed_outputs a activity ≡ all_outputs a activity
  same_outputs a activity known = rw (fed a activity known) refl

  plain_fate : (activity : Activity) (v : Option Bool) (outs outs' : List Container) → (is_none v ≡ false → outs ≡ outs') → fate_by activity v outs ≡ fate_by activity v outs'
  plain_fate activity None outs outs' same = refl
  plain_fate activity (Some b) outs outs' same = ap (fate_by activity (Some b)) (same refl)

  plain_end : (activity : Activity) (v : Option Bool) (outs outs' : List Container) → (is_none v ≡ false → outs ≡ outs')
      → ended (fate_by activity v outs) outs ≡ ended (fate_by activity v outs') outs'
  plain_end activity None outs outs' same = refl
  plain_end activity (Some b) outs outs' same = ap (λ os. ended (fate_by activity (Some b) os) os) (same refl)

  pub fate_is : (a : ℕ) (activity : Activity) → slice_get (out-Graph g).activities a ≡ Some activity
      → tree_fate ts depth (all_of k) g input a ≡ fate_by activity (join_of g ends a activity) (all_outputs a activity)
  fate_is a activity is =
      rw is (plain_fate activity (join_of g ends a activity) (fed_outputs a activity) (all_outputs a activity) (same_outputs a activity))

  pub end_is : (a : ℕ) (activity : Activity) → slice_get (out-Graph g).activities a ≡ Some activity
      → ends a ≡ ended (fate_by activity (join_of g ends a activity) (all_outputs a activity)) (all_outputs a activity)
  end_is a activity is =
      step_keeps_ends ts depth (all_of k) g input order flow a
      ∙ rw is (plain_end activity (join_of g ends a activity) (fed_outputs a activity) (all_outputs a activity) (same_outputs a activity))

  pub fates_solve : Solves ts depth (all_of k) g input (tree_fate ts depth (all_of k) g input) ends
  fates_solve = record {
    fate = λ a activity is. rw (fate_is a activity is) (fate_in_words activity (join_of g ends a activity) (all_outputs a activity));
    end = λ a activity is.
        rw (fate_is a activity is, end_is a activity is)
        (end_in_words (fate_by activity (join_of g ends a activity) (all_outputs a activity)) (all_outputs a activity));
  }

-- ---- no others satisfy the plain equations

module _ (ts : List Template) (depth : ℕ) (k : Known) (g : Graph) (input : Container) (order : List ℕ) (flow : IsFlow g order) (wired : IsWired g) where
  abbrev now : Ends
  now = tree_ends ts depth (all_of k) g input

  -- the equation of an end
  abbrev end_by : Ends → ℕ → Option Activity → SourceEnd
  end_by e a None = end.Unsettled
  end_by e a (Some activity) =
      ended (fate_by activity (join_of g e a activity) (outputs_of ts depth (all_of k) g input e a activity)) (outputs_of ts depth (all_of k) g input e a activity)

  abbrev plain_step : Ends → Ends
  plain_step e a = end_by e a (slice_get (out-Graph g).activities a)

  joins_same : (e e' : Ends) (a : ℕ) (activity : Activity) → SameControls (out-Graph g).controls a e e' → join_of g e a activity ≡ join_of g e' a activity
  joins_same e e' a activity same = ap (joined activity.join) (values_same (all_of k) (out-Graph g).controls e e' a (out-Graph g).controls same)

  outputs_same : (e e' : Ends) (a : ℕ) (activity : Activity) → SameLines (out-Graph g).lines a e e'
      → outputs_of ts depth (all_of k) g input e a activity ≡ outputs_of ts depth (all_of k) g input e' a activity
  outputs_same e e' a activity same =
      let base : base_of g activity a input e ≡ base_of g activity a input e' = fed_same (out-Graph g).lines (At a) input e' e _ (λ i d h to b from. same i d h to b from) in
      ap (tries_on ts (all_of k) (output ts depth) g a activity) base

  plain_same : (e e' : Ends) (a : ℕ) → SameControls (out-Graph g).controls a e e' → SameLines (out-Graph g).lines a e e' → (o : Option Activity) → end_by e a o ≡ end_by e' a o
  plain_same e e' a controls lines None = refl
  plain_same e e' a controls lines (Some activity) =
      let outs = outputs_same e e' a activity lines in
      let join = joins_same e e' a activity controls in
      ap (λ v. ended (fate_by activity v (outputs_of ts depth (all_of k) g input e a activity)) (outputs_of ts depth (all_of k) g input e a activity)) join
      ∙ ap (λ os. ended (fate_by activity (join_of g e' a activity) os) os) outs

  controls_same : (i : ℕ) → i < length order → (e e' : Ends) → ((j : ℕ) → j < i → e (slice_index order j) ≡ e' (slice_index order j))
      → SameControls (out-Graph g).controls (slice_index order i) e e'
  controls_same i less e e' same n d h to = let source = flow.ordered.forward i less n d h to in rw source.2 at (same source.0 source.1)

  lines_same : (i : ℕ) → i < length order → (e e' : Ends) → ((j : ℕ) → j < i → e (slice_index order j) ≡ e' (slice_index order j))
      → SameLines (out-Graph g).lines (slice_index order i) e e'
  lines_same i less e e' same n d h to b from = let source = flow.fed i less n d h to b from in rw source.2 at (same source.0 source.1)

  plain_forward : (i : ℕ) → i < length order → (e e' : Ends) → ((j : ℕ) → j < i → e (slice_index order j) ≡ e' (slice_index order j))
      → plain_step e (slice_index order i) ≡ plain_step e' (slice_index order i)
  plain_forward i less e e' same =
      plain_same e e' (slice_index order i) (controls_same i less e e' same) (lines_same i less e e' same) (slice_get (out-Graph g).activities (slice_index order i))

  plain_kept : (a : ℕ) → a < length (out-Graph g).activities → now a ≡ plain_step now a
  plain_kept a inside = go (slice_get (out-Graph g).activities a) refl
    where
      go : (o : Option Activity) → slice_get (out-Graph g).activities a ≡ o → now a ≡ end_by now a o
      go None is = step_keeps_ends ts depth (all_of k) g input order flow a ∙ rw is refl
      go (Some activity) is = end_is ts depth k g input order flow wired a activity is

  module _ (fates : ℕ → Fate) (e : Ends) (solves : Solves ts depth (all_of k) g input fates e) where
    fate_of : (a : ℕ) (activity : Activity) → slice_get (out-Graph g).activities a ≡ Some activity
        → fates a ≡ fate_by activity (join_of g e a activity) (outputs_of ts depth (all_of k) g input e a activity)
    fate_of a activity is = one_fate activity _ _ _ _ (solves.fate a activity is) (fate_in_words activity _ _)

    end_of : (a : ℕ) (activity : Activity) → slice_get (out-Graph g).activities a ≡ Some activity → e a ≡ end_by e a (Some activity)
    end_of a activity is =
        let outs = outputs_of ts depth (all_of k) g input e a activity in
        one_end (fates a) outs (e a) (ended (fates a) outs) (solves.end a activity is) (end_in_words (fates a) outs)
        ∙ ap (λ f. ended f outs) (fate_of a activity is)

    plain_solves : (a : ℕ) → a < length (out-Graph g).activities → e a ≡ plain_step e a
    plain_solves a inside =
        let there = activity_at g a inside in
        end_of a there.0 there.1 ∙ rw there.1 refl

    same_ends : (i : ℕ) → i ≤ length order → (j : ℕ) → j < i → e (slice_index order j) ≡ now (slice_index order j)
    same_ends i le j less =
        let count : ℕ = length (out-Graph g).activities in
        let enough : length order ≤ count = omega (arith, flow.ordered.long) in
        let inside : (j : ℕ) → j < length order → slice_index order j < count = λ j less. flow.ordered.in_range j 0 less in
        unique plain_step order plain_forward e (λ j less. plain_solves (slice_index order j) (inside j less)) count enough i le j less
        ∙ sym (unique plain_step order plain_forward now (λ j less. plain_kept (slice_index order j) (inside j less)) count enough i le j less)

    fate_at_place : (i : ℕ) → i < length order → (activity : Activity) → slice_get (out-Graph g).activities (slice_index order i) ≡ Some activity
        → fates (slice_index order i) ≡ tree_fate ts depth (all_of k) g input (slice_index order i)
    fate_at_place i less activity is =
        let a : ℕ = slice_index order i in
        let before : (j : ℕ) → j < i → e (slice_index order j) ≡ now (slice_index order j) = λ j h. same_ends i (omega arith) j h in
        let join = joins_same e now a activity (controls_same i less e now before) in
        let outs = outputs_same e now a activity (lines_same i less e now before) in
        fate_of a activity is
        ∙ ap (λ v. fate_by activity v (outputs_of ts depth (all_of k) g input e a activity)) join
        ∙ ap (fate_by activity (join_of g now a activity)) outs
        ∙ sym (fate_is ts depth k g input order flow wired a activity is)

    pub are_fates : AreFates ts depth (all_of k) g input fates e
    are_fates = record {
      fate = λ a inside.
          let place = flow.ordered.covers a inside in
          let there = activity_at g a inside in
          let is : slice_get (out-Graph g).activities (slice_index order place.0) ≡ Some there.0 = rw place.2 there.1 in
          rw place.2 at (fate_at_place place.0 place.1 there.0 is);
      end = λ a inside.
          let place = flow.ordered.covers a inside in
          rw place.2 at (same_ends (length order) (omega arith) place.0 place.1);
    }

-- ---- for a graph that is well

-- what a graph has that is well at any depth
pub record HasOrder (g : Graph) : Type 0 where
  pub order : List ℕ
  pub flow : IsFlow g order
  pub wired : IsWired g

pub order_of : (ts : List Template) (depth : ℕ) (g : Graph) → Well ts depth g → HasOrder g
order_of ts zero g well = record { order = well.order; flow = well.flow; wired = well.wired }
order_of ts (suc depth) g well = record { order = well.order; flow = well.flow; wired = well.wired }
