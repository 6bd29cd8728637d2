-- An activity, by how the others have ended: all that is so after this many completions is found.
use Rattle.std.proofs.Common.{◌≡◌, ℕ, suc, ◌≤◌, ◌==◌, ◌&&◌, Bool, true, false, List, [], ◌∷◌, ◌++◌, length, map, Option, Some, None, refl, ap, sym, subst, ◌∙◌, ◌⊎◌, inl, inr, arith}
use Rattle.std.specs.Prelude.{if◌then◌else◌, is_none}
use Rattle.std.specs.List.{All, filter, list_any, last_or}
use Rattle.std.proofs.lemmas.Bool.Decides.{eqb_tells}
use Rattle.std.proofs.lemmas.List.Elements.{All-cons}
use Rattle.blocks_subprocs.specs.Ends.{ends_of}
use Rattle.flow_model.specs.Fates.{Ends, connector_value, joined, fate_by, goes_on, tried, ended, is_open, is_settled}
use Rattle.flow_model.specs.Rows.{rows_below, below}
use Rattle.flow_model.specs.ScopeContainers.{graph_in, base_of}
use Rattle.flow_model.specs.Scopes.{Known, starts, gives, trial, is_fed, attempts_at, output}
use Rattle.flow_model.specs.declared.graphs.Activity.{Activity}
use Rattle.flow_model.specs.declared.graphs.Container.{Container}
use Rattle.flow_model.specs.declared.graphs.Control.{Control}
use Rattle.flow_model.specs.declared.graphs.DataLine.{DataLine}
use Rattle.flow_model.specs.declared.graphs.Graph.{Graph, out-Graph}
use Rattle.flow_model.specs.declared.graphs.MapEnd.TheVariants.{Activity as At}
use Rattle.flow_model.specs.declared.graphs.Template.{Template}
use Rattle.flow_model.specs.declared.graphs.Work.{Work, Program, Block, Process}
use Rattle.flow_model.specs.declared.instances.Fate.{Fate}
use Rattle.flow_model.specs.declared.instances.Fate.TheVariants.{Ready, Waiting, Dead}
use Rattle.flow_model.specs.declared.instances.FateRow.{FateRow}
use Rattle.flow_model.specs.declared.instances.Path.{Path}
use Rattle.flow_model.specs.declared.instances.SourceEnd.{SourceEnd}
use Rattle.flow_model.specs.declared.instances.SourceEnd.TheVariants as end
use Rattle.fate_laws.proofs.Extends.{or_false}
use Rattle.fate_laws.proofs.Forward.{SameControls, SameLines, values_same, is_fed_same}
use Rattle.fate_laws.proofs.Lines.{fed_same}
use Rattle.fate_laws.proofs.Steps.{fed_true}
use Rattle.fate_eval.specs.Entries.{known_after}
use Rattle.fate_eval.specs.Passing.{rows_inside, rows_by_ends, end_by_ends}
use Rattle.fate_eval.specs.Timely.{IsShownReady, AfterControls, AfterLines}
use Rattle.fate_eval.specs.Whole.{AreWhole, IsWholeOpen, IsWholeFound, TellsControls, TellsLines}
use Rattle.fate_eval.specs.declared.accepted.Entry.{Entry}
use Rattle.fate_eval.proofs.InTime.{rows_open}
use Rattle.fate_eval.proofs.WholeTurn.{shown_cases, shown_none, shown_own}

no_end : false ≡ true → ⊥
no_end h = cc

-- ---- what feeds it

unsettled_go : (work : Work) (j : ℕ) (os : List Container) → ended (goes_on work j) os ≡ end.Unsettled
unsettled_go (Program p) j os = refl
unsettled_go (Block h) j os = refl
unsettled_go (Process x) j os = refl

module _ (ts : List Template) (depth most : ℕ) (es : List Entry) (g : Graph) (input : Container) (s : Path) (ends : List SourceEnd) (afters : List ℕ) (a : ℕ) (activity : Activity) where
  abbrev known : ℕ → Known
  known n = known_after most es n

  abbrev lines : List DataLine
  lines = (out-Graph g).lines

  lines_told : (n : ℕ) (e : Ends) → TellsLines n ends afters e lines a → is_fed lines a e ≡ true → SameLines lines a e (ends_of ends)
  lines_told n e tells fed = λ i d inside to b from. sym (tells i d inside to b from (fed_true lines a e fed i d inside to b from)).0

  lines_after : (n : ℕ) (e : Ends) → TellsLines n ends afters e lines a → is_fed lines a e ≡ true → AfterLines lines afters a n
  lines_after n e tells fed = λ i d inside to b from. (tells i d inside to b from (fed_true lines a e fed i d inside to b from)).1

  -- an activity with attempts that end is fed
  fed_first : (n : ℕ) (e : Ends) → is_settled (ended (tried activity (length (attempts_at ts (known n) (output ts depth) g input e a (Some activity))) (last_or None (attempts_at ts (known n) (output ts depth) g input e a (Some activity)))) (attempts_at ts (known n) (output ts depth) g input e a (Some activity))) ≡ true
      → is_fed lines a e ≡ true
  fed_first n e settled = go (is_fed lines a e) refl
    where
      go : (b : Bool) → is_fed lines a e ≡ b → is_fed lines a e ≡ true
      go true is = is
      go false is =
          let none : is_settled (ended (goes_on activity.work 1) []) ≡ true = rw is at settled in
          absurd (no_end (ap is_settled (sym (unsettled_go activity.work 1 [])) ∙ none))

  -- it isn't fed, and has no attempts
  pub unfed_whole : (since : ℕ) (e : SourceEnd) (after : ℕ) (ready : List ℕ) → is_fed lines a (ends_of ends) ≡ false → IsWholeOpen ts depth most es g input s ends afters a activity since e after ready
  unfed_whole since e after ready unfed = record {
    ending = λ n f low tells settled. absurd (never n f tells (fed_first n f settled));
    inside = λ i f low tells fed shown. absurd (never i f tells fed);
  }
    where
      never : (n : ℕ) (f : Ends) → TellsLines n ends afters f lines a → is_fed lines a f ≡ true → ⊥
      never n f tells fed = no_end (sym unfed ∙ sym (is_fed_same lines a f (ends_of ends) (lines_told n f tells fed)) ∙ fed)

  pub open_whole : (since fed : ℕ) (base : Container) (e : SourceEnd) (after : ℕ) (ready : List ℕ)
      → ((n : ℕ) → since ≤ n → AfterLines lines afters a n → fed ≤ n) → base ≡ base_of g activity a input (ends_of ends)
      → AreWhole ts depth most es g s a activity base fed e after ready
      → IsWholeOpen ts depth most es g input s ends afters a activity since e after ready
  open_whole since fed base e after ready least is are = record {
    ending = λ n f low tells settled.
        (let fed_ = fed_first n f settled in
        let base_ = base_at n f tells fed_ in
        let early = least n low (lines_after n f tells fed_) in
        ends_at n f early fed_ base_ settled);
    inside = λ i f low tells fed_ shown.
        (let base_ = base_at i f tells fed_ in
        are.inside i (least i low (lines_after i f tells fed_)) (rw (fed_, base_) at shown));
  }
    where
      base_at : (n : ℕ) (f : Ends) → TellsLines n ends afters f lines a → is_fed lines a f ≡ true → base_of g activity a input f ≡ base
      base_at n f tells fed_ = fed_same lines (At a) input (ends_of ends) f _ (λ i d inside to b from. lines_told n f tells fed_ i d inside to b from) ∙ sym is

      ends_at : (n : ℕ) (f : Ends) → fed ≤ n → is_fed lines a f ≡ true → base_of g activity a input f ≡ base
          → is_settled (ended (tried activity (length (attempts_at ts (known n) (output ts depth) g input f a (Some activity))) (last_or None (attempts_at ts (known n) (output ts depth) g input f a (Some activity)))) (attempts_at ts (known n) (output ts depth) g input f a (Some activity))) ≡ true
          → (e ≡ ended (tried activity (length (attempts_at ts (known n) (output ts depth) g input f a (Some activity))) (last_or None (attempts_at ts (known n) (output ts depth) g input f a (Some activity)))) (attempts_at ts (known n) (output ts depth) g input f a (Some activity)))
          × (after ≤ n)
      ends_at n f early fed_ base_ settled = rw (fed_, base_) (are.ending n early (rw (fed_, base_) at settled))

  -- ---- its join

  abbrev values : Ends → List (Option Bool)
  values e = map (λ c. connector_value (out-Graph g).controls c (e c.from)) (filter (λ c. c.to == a) (out-Graph g).controls)

  known_each : (e : Ends) (cs : List Control) → list_any is_none (map (λ c. connector_value (out-Graph g).controls c (e c.from)) (filter (λ c. c.to == a) cs)) ≡ false
      → All (λ c. c.to ≡ a → is_settled (e c.from) ≡ true) cs
  known_each e [] h = λ i d less. absurd (omega arith)
  known_each e (c ∷ cs) h = elim (eqb_tells c.to a) [
    | inl is ↦
        let both = or_false (is_none (connector_value (out-Graph g).controls c (e c.from))) _ (rw is.0 at h) in
        All-cons (λ c. c.to ≡ a → is_settled (e c.from) ≡ true) c cs (λ to. settled_of c (e c.from) both.0) (known_each e cs both.1)
    | inr other ↦
        All-cons (λ c. c.to ≡ a → is_settled (e c.from) ≡ true) c cs (λ to. absurd (other.1 to)) (known_each e cs (rw other.0 at h))
  ]
    where
      settled_of : (c : Control) (f : SourceEnd) → is_none (connector_value (out-Graph g).controls c f) ≡ false → is_settled f ≡ true
      settled_of c end.Unsettled h = cc
      settled_of c end.Dead h = refl
      settled_of c (end.Finished out) h = refl

  -- a join that is known after n completions is known so, and its sources no later
  pub told_join : (n : ℕ) (e : Ends) → TellsControls n ends afters e (out-Graph g).controls a → list_any is_none (values e) ≡ false
      → (joined activity.join (values (ends_of ends)) ≡ joined activity.join (values e)) × AfterControls (out-Graph g).controls afters a n
  told_join n e tells known_ =
      let settled = known_each e (out-Graph g).controls known_ in
      let same : SameControls (out-Graph g).controls a (ends_of ends) e = λ i d inside to. (tells i d inside to (settled i d inside to)).0 in (
        ap (joined activity.join) (values_same (known n) (out-Graph g).controls (ends_of ends) e a (out-Graph g).controls same),
        λ i d inside to. (tells i d inside to (settled i d inside to)).1,
      )

  abbrev join_at : Ends → Option Bool
  join_at e = joined activity.join (values e)

  join_cases : (e : Ends) → ((list_any is_none (values e) ≡ true) × (join_at e ≡ None)) ⊎ (list_any is_none (values e) ≡ false)
  join_cases e = go (list_any is_none (values e)) refl
    where
      go : (b : Bool) → list_any is_none (values e) ≡ b → ((list_any is_none (values e) ≡ true) × (join_at e ≡ None)) ⊎ (list_any is_none (values e) ≡ false)
      go true is = inl (is, rw is refl)
      go false is = inr is

  -- ---- the activity

  abbrev outs : ℕ → Ends → List Container
  outs n e = attempts_at ts (known n) (output ts depth) g input e a (Some activity)

  row_by : ℕ → Ends → Fate → List FateRow
  row_by n e f =
      record { scope = s; name = activity.name; fate = f }
      ∷ rows_below (rows_inside ts depth) (known n) activity (graph_in ts activity.work) (if is_open f && is_fed lines a e
      then starts (suc most) (gives ts (known n) (output ts depth) activity.name activity.work) (trial g a activity (base_of g activity a input e)) 1 (base_of g activity a input e)
      else []) s

  -- no completion is shown ready where the activity waits, or is dead
  closed_rows : (n : ℕ) (e : Ends) (f : Fate) (j : Option Bool) → join_at e ≡ j → fate_by activity j (outs n e) ≡ f → is_open f ≡ false → ((m : ℕ) → f ≡ Ready m → ⊥)
      → IsShownReady es s (rows_by_ends ts depth (known n) g input s e a (Some activity)) n → ⊥
  unfolding row_by
  closed_rows n e f j join is closed never shown =
      let own : List FateRow = record { scope = s; name = activity.name; fate = f } ∷ [] in
      let first : rows_by_ends ts depth (known n) g input s e a (Some activity) ≡ row_by n e f = ap (λ x. row_by n e (fate_by activity x (outs n e))) join ∙ ap (row_by n e) is in
      let second : row_by n e f ≡ own ++ rows_below (rows_inside ts depth) (known n) activity (graph_in ts activity.work) [] s = rw closed refl in
      let P : List FateRow → Type 0 = λ rows. IsShownReady es s rows n in
      elim (shown_cases es s own (rows_below (rows_inside ts depth) (known n) activity (graph_in ts activity.work) [] s) n (subst P (first ∙ second) shown)) [
        | inl here ↦ (let it = shown_own es s activity f n here in never it.0 it.1)
        | inr below ↦ shown_none es s n (subst P (nothing_below (graph_in ts activity.work)) below)
      ]
    where
      nothing_below : (o : Option Graph) → rows_below (rows_inside ts depth) (known n) activity o [] s ≡ []
      nothing_below None = refl
      nothing_below (Some h) = refl

  waits_not : (m : ℕ) → Waiting ≡ Ready m → ⊥
  waits_not m h = cc

  dead_not : (m : ℕ) → Dead ≡ Ready m → ⊥
  dead_not m h = cc

  end_at : (n : ℕ) (e : Ends) (j : Option Bool) → join_at e ≡ j → end_by_ends ts depth (known n) g input e a (Some activity) ≡ ended (fate_by activity j (outs n e)) (outs n e)
  end_at n e j is = ap (λ x. ended (fate_by activity x (outs n e)) (outs n e)) is

  pub waiting_whole : (since : ℕ) (e : SourceEnd) (after : ℕ) (ready : List ℕ) → join_at (ends_of ends) ≡ None
      → IsWholeFound ts depth most es g input s since ends afters a (Some activity) e after ready
  waiting_whole since e after ready waits = record {
    ending = λ n f low controls feeding settled. absurd (no_end (ap is_settled (sym (end_at n f None (waits_at n f controls))) ∙ settled));
    inside = λ i f low controls feeding fed shown. absurd (closed_rows i f Waiting None (waits_at i f controls) refl refl waits_not shown);
  }
    where
      waits_at : (n : ℕ) (f : Ends) → TellsControls n ends afters f (out-Graph g).controls a → join_at f ≡ None
      waits_at n f controls = elim (join_cases f) [ inl w ↦ w.1 | inr k ↦ sym (told_join n f controls k).0 ∙ waits ]

  pub dead_whole : (since join : ℕ) (e : SourceEnd) (after : ℕ) (ready : List ℕ) → join_at (ends_of ends) ≡ Some false → ((n : ℕ) → since ≤ n → AfterControls (out-Graph g).controls afters a n → join ≤ n)
      → after ≡ join → e ≡ end.Dead
      → IsWholeFound ts depth most es g input s since ends afters a (Some activity) e after ready
  dead_whole since join e after ready is least same ending = record {
    ending = λ n f low controls feeding settled. elim (join_cases f) [
      | inl w ↦ absurd (no_end (ap is_settled (sym (end_at n f None w.1)) ∙ settled))
      | inr k ↦
          (let told = told_join n f controls k in
          let early = least n low told.1 in
          (ending ∙ sym (end_at n f (Some false) (sym told.0 ∙ is)), omega (arith, same, early)))
    ];
    inside = λ i f low controls feeding fed shown. elim (join_cases f) [
      | inl w ↦ absurd (closed_rows i f Waiting None w.1 refl refl waits_not shown)
      | inr k ↦ absurd (closed_rows i f Dead (Some false) (sym (told_join i f controls k).0 ∙ is) refl refl dead_not shown)
    ];
  }

  pub alive_whole : (since join : ℕ) (e : SourceEnd) (after : ℕ) (ready : List ℕ) → join_at (ends_of ends) ≡ Some true → ((n : ℕ) → since ≤ n → AfterControls (out-Graph g).controls afters a n → join ≤ n)
      → IsWholeOpen ts depth most es g input s ends afters a activity join e after ready
      → IsWholeFound ts depth most es g input s since ends afters a (Some activity) e after ready
  alive_whole since join e after ready is least opens = record {
    ending = λ n f low controls feeding settled. elim (join_cases f) [
      | inl w ↦ absurd (no_end (ap is_settled (sym (end_at n f None w.1)) ∙ settled))
      | inr k ↦
          (let told = told_join n f controls k in
          let same = end_at n f (Some true) (sym told.0 ∙ is) in
          let r = opens.ending n f (least n low told.1) feeding (ap is_settled (sym same) ∙ settled) in
          (r.0 ∙ sym same, r.1))
    ];
    inside = λ i f low controls feeding fed shown. elim (join_cases f) [
      | inl w ↦ absurd (closed_rows i f Waiting None w.1 refl refl waits_not shown)
      | inr k ↦
          (let told = told_join i f controls k in
          let P : List FateRow → Type 0 = λ rows. IsShownReady es s rows i in
          opens.inside i f (least i low told.1) feeding (fed k) (subst P (rows_open ts depth most es g input s ends afters a activity i f (sym told.0 ∙ is)) shown))
    ];
  }
