-- An activity, by how the others have ended after this many completions.
use Rattle.std.proofs.Common.{◌≡◌, ℕ, suc, ◌+◌, ◌≤◌, ◌==◌, ◌&&◌, Bool, true, false, List, [], ◌∷◌, length, map, get_or, Option, Some, None, cond, refl, ap, sym, subst, ◌∙◌, inl, inr, arith}
use Rattle.std.specs.Prelude.{if◌then◌else◌, is_none}
use Rattle.std.specs.List.{All, filter, list_any, last_or}
use Rattle.std.proofs.lemmas.Bool.Decides.{eqb_tells}
use Rattle.std.proofs.lemmas.List.Elements.{All-cons}
use Rattle.blocks_subprocs.specs.Ends.{ends_of}
use Rattle.flow_model.specs.Conditions.{holds}
use Rattle.flow_model.specs.Fates.{Ends, connector_value, joined, fate_by, goes_on, tried, ended, is_open, is_settled}
use Rattle.flow_model.specs.Rows.{rows_below}
use Rattle.flow_model.specs.ScopeContainers.{graph_in, base_of}
use Rattle.flow_model.specs.Scopes.{Known, Start, starts, gives, trial, is_fed, attempts_at, values_at, output}
use Rattle.flow_model.specs.declared.graphs.Activity.{Activity}
use Rattle.flow_model.specs.declared.graphs.Container.{Container}
use Rattle.flow_model.specs.declared.graphs.Control.{Control}
use Rattle.flow_model.specs.declared.graphs.Join.{Join}
use Rattle.flow_model.specs.declared.graphs.Graph.{Graph, out-Graph}
use Rattle.flow_model.specs.declared.graphs.MapEnd.TheVariants.{Activity as At}
use Rattle.flow_model.specs.declared.graphs.Template.{Template}
use Rattle.flow_model.specs.declared.graphs.Work.{Work, Program, Block, Process}
use Rattle.flow_model.specs.declared.instances.Fate.{Fate}
use Rattle.flow_model.specs.declared.instances.Fate.TheVariants.{Finished}
use Rattle.flow_model.specs.declared.instances.FateRow.{FateRow}
use Rattle.flow_model.specs.declared.instances.Path.{Path}
use Rattle.flow_model.specs.declared.instances.SourceEnd.{SourceEnd}
use Rattle.flow_model.specs.declared.instances.SourceEnd.TheVariants as end
use Rattle.fate_laws.proofs.Extends.{or_false}
use Rattle.fate_laws.proofs.Forward.{SameControls, SameLines, values_same, is_fed_same}
use Rattle.fate_laws.proofs.Lines.{fed_same}
use Rattle.fate_laws.proofs.Steps.{fed_true}
use Rattle.fate_eval.specs.Entries.{known_after}
use Rattle.fate_eval.specs.Passing.{rows_inside, rows_by_ends}
use Rattle.fate_eval.specs.Timely.{IsShownReady, AreTimely, IsTimelyOpen, IsTimelyFound, Knows, AfterControls, AfterLines, tried_rows}
use Rattle.fate_eval.specs.declared.accepted.Entry.{Entry}

-- ---- what feeds it

module _ (ts : List Template) (depth most : ℕ) (es : List Entry) (g : Graph) (input : Container) (s : Path) (ends : List SourceEnd) (afters : List ℕ) (a : ℕ) (activity : Activity) where
  abbrev pub known : ℕ → Known
  known n = known_after most es n

  lines_same : (n fed : ℕ) (e : Ends) → is_fed (out-Graph g).lines a (ends_of ends) ≡ true → AfterLines (out-Graph g).lines afters a fed → fed ≤ n → Knows n ends afters e
      → SameLines (out-Graph g).lines a e (ends_of ends)
  lines_same n fed e settled after less knows = λ i d inside to b from.
      let s_ = fed_true (out-Graph g).lines a (ends_of ends) settled i d inside to b from in
      let early = after i d inside to b from in
      knows b s_ (omega (arith, early))

  pub open_timely : (since fed : ℕ) (base : Container) (e : SourceEnd) (after : ℕ) (ready : List ℕ)
      → is_fed (out-Graph g).lines a (ends_of ends) ≡ true → since ≤ fed → AfterLines (out-Graph g).lines afters a fed → base ≡ base_of g activity a input (ends_of ends)
      → AreTimely ts depth most es g s a activity base fed e after ready
      → IsTimelyOpen ts depth most es g input s ends afters a activity since e after ready
  open_timely since fed base e after ready settled first lines is are =
      let fed_at : (n : ℕ) (f : Ends) → fed ≤ n → Knows n ends afters f → is_fed (out-Graph g).lines a f ≡ true
      = λ n f less knows. is_fed_same (out-Graph g).lines a f (ends_of ends) (lines_same n fed f settled lines less knows) ∙ settled in
      let base_at : (n : ℕ) (f : Ends) → fed ≤ n → Knows n ends afters f → base_of g activity a input f ≡ base
      = λ n f less knows. fed_same (out-Graph g).lines (At a) input (ends_of ends) f _ (λ i d inside to b from. lines_same n fed f settled lines less knows i d inside to b from) ∙ sym is in
      record {
        later = λ s_. let second = are.later s_ in omega (arith, second, first);
        ending = λ n f knows s_ less.
            let second = are.later s_ in
            let early : fed ≤ n = omega (arith, second, less) in
            rw (fed_at n f early knows, base_at n f early knows) (are.ending n s_ less);
        each = λ x d less.
            let here = are.each x d less in
            let from_ = here.0 in
            (omega (arith, from_, first), λ f knows. rw (fed_at _ f from_ knows, base_at _ f from_ knows) here.1);
      }

  -- ---- its join

  known_each : (cs : List Control) → list_any is_none (map (λ c. connector_value (out-Graph g).controls c (ends_of ends c.from)) (filter (λ c. c.to == a) cs)) ≡ false
      → All (λ c. c.to ≡ a → is_settled (ends_of ends c.from) ≡ true) cs
  known_each [] h = λ i d less. absurd (omega arith)
  known_each (c ∷ cs) h = elim (eqb_tells c.to a) [
    | inl is ↦
        let both = or_false (is_none (connector_value (out-Graph g).controls c (ends_of ends c.from))) _ (rw is.0 at h) in
        All-cons (λ c. c.to ≡ a → is_settled (ends_of ends c.from) ≡ true) c cs (λ to. settled_of c (ends_of ends c.from) both.0) (known_each cs both.1)
    | inr other ↦
        All-cons (λ c. c.to ≡ a → is_settled (ends_of ends c.from) ≡ true) c cs (λ to. absurd (other.1 to)) (known_each cs (rw other.0 at h))
  ]
    where
      settled_of : (c : Control) (e : SourceEnd) → is_none (connector_value (out-Graph g).controls c e) ≡ false → is_settled e ≡ true
      settled_of c end.Unsettled h = cc
      settled_of c end.Dead h = refl
      settled_of c (end.Finished out) h = refl

  abbrev values : Ends → List (Option Bool)
  values e = map (λ c. connector_value (out-Graph g).controls c (e c.from)) (filter (λ c. c.to == a) (out-Graph g).controls)

  known_values : (rule : Join) (v : Bool) → joined rule (values (ends_of ends)) ≡ Some v → list_any is_none (values (ends_of ends)) ≡ false
  known_values rule v h = go (list_any is_none (values (ends_of ends))) refl
    where
      go : (b : Bool) → list_any is_none (values (ends_of ends)) ≡ b → list_any is_none (values (ends_of ends)) ≡ false
      go false is = is
      go true is = let n : None ≡ Some v = rw is at h in let m : ⊥ = cc in absurd m

  -- a join that is known after this many completions is the same for whoever knows the ends after no fewer
  pub joined_at : (v : Bool) (after n : ℕ) (e : Ends) → joined activity.join (values (ends_of ends)) ≡ Some v → AfterControls (out-Graph g).controls afters a after → after ≤ n → Knows n ends afters e
      → joined activity.join (values_at (known n) (out-Graph g).controls e a) ≡ Some v
  joined_at v after n e is controls less knows =
      let settled = known_each (out-Graph g).controls (known_values activity.join v is) in
      let same : SameControls (out-Graph g).controls a e (ends_of ends) = λ i d inside to.
      (let early = controls i d inside to in knows _ (settled i d inside to) (omega (arith, early))) in
      ap (joined activity.join) (values_same (known n) (out-Graph g).controls e (ends_of ends) a (out-Graph g).controls same) ∙ is

  -- ---- the activity

  pub dead_timely : (since join after : ℕ) (e : SourceEnd) (ready : List ℕ) → joined activity.join (values (ends_of ends)) ≡ Some false → AfterControls (out-Graph g).controls afters a join
      → after ≡ join → e ≡ end.Dead → ready ≡ [] → IsTimelyFound ts depth most es g input s since ends afters a (Some activity) e after ready
  dead_timely since join after e ready is controls same ending none = record {
    ending = λ n f knows settled less. ap (λ j. ended (fate_by activity j (attempts_at ts (known n) (output ts depth) g input f a (Some activity))) (attempts_at ts (known n) (output ts depth) g input f a (Some activity))) (joined_at false join n f is controls (omega (arith, same, less)) knows) ∙ sym ending;
    each = rw none (λ x d less. absurd (omega arith));
  }

  goes_open : (work : Work) (j : ℕ) → is_open (goes_on work j) ≡ true
  goes_open (Program p) j = refl
  goes_open (Block h) j = refl
  goes_open (Process t) j = refl

  tried_open : (n : ℕ) (o : Option Container) → is_open (tried activity n o) ≡ true
  tried_open n None = goes_open activity.work 1
  tried_open n (Some out) = go (holds activity.exit out)
    where
      go : (b : Bool) → is_open (cond b (Finished n) (goes_on activity.work (n + 1))) ≡ true
      go true = refl
      go false = goes_open activity.work (n + 1)

  abbrev pub outs : ℕ → Ends → List Container
  outs n e = attempts_at ts (known n) (output ts depth) g input e a (Some activity)

  abbrev pub starts_at : ℕ → Ends → Bool → List Start
  starts_at n e active =
      if active
      then starts (suc most) (gives ts (known n) (output ts depth) activity.name activity.work) (trial g a activity (base_of g activity a input e)) 1 (base_of g activity a input e)
      else []

  row_by : ℕ → Ends → Fate → List FateRow
  row_by n e f =
      record { scope = s; name = activity.name; fate = f }
      ∷ rows_below (rows_inside ts depth) (known n) activity (graph_in ts activity.work) (starts_at n e (is_open f && is_fed (out-Graph g).lines a e)) s

  abbrev pub fate : ℕ → Ends → Fate
  fate n e = tried activity (length (outs n e)) (last_or None (outs n e))

  pub rows_open : (n : ℕ) (e : Ends) → joined activity.join (values_at (known n) (out-Graph g).controls e a) ≡ Some true
      → rows_by_ends ts depth (known n) g input s e a (Some activity) ≡ tried_rows ts depth most es s activity n (outs n e) (starts_at n e (is_fed (out-Graph g).lines a e))
  unfolding row_by
  rows_open n e is =
      ap (λ j. row_by n e (fate_by activity j (outs n e))) is
      ∙ ap (λ active. record { scope = s; name = activity.name; fate = fate n e }
      ∷ rows_below (rows_inside ts depth) (known n) activity (graph_in ts activity.work) (starts_at n e (active && is_fed (out-Graph g).lines a e)) s)
      (tried_open (length (outs n e)) (last_or None (outs n e)))

  pub alive_timely : (since join : ℕ) (e : SourceEnd) (after : ℕ) (ready : List ℕ) → joined activity.join (values (ends_of ends)) ≡ Some true → AfterControls (out-Graph g).controls afters a join
      → since ≤ join → IsTimelyOpen ts depth most es g input s ends afters a activity join e after ready
      → IsTimelyFound ts depth most es g input s since ends afters a (Some activity) e after ready
  alive_timely since join e after ready is controls first opens = record {
    ending = λ n f knows settled less.
        let second = opens.later settled in
        let early : join ≤ n = omega (arith, second, less) in
        ap (λ j. ended (fate_by activity j (outs n f)) (outs n f)) (joined_at true join n f is controls early knows) ∙ opens.ending n f knows settled less;
    each = λ x d less.
        let here = opens.each x d less in
        let from_ = here.0 in (
          omega (arith, from_, first),
          λ f knows.
              (let P : List FateRow → Type 0 = λ rows. IsShownReady es s rows (get_or ready x d) in
              subst P (sym (rows_open _ f (joined_at true join _ f is controls from_ knows))) (here.1 f knows)),
        );
  }
