-- An attempt that has started by the view has started by the completions alone, on the same input; where all that is due was taken, the other way round too.
use Rattle.std.proofs.Common.{◌≡◌, ℕ, zero, suc, ◌+◌, true, ◌&&◌, List, refl, sym, ap, ◌∙◌, Some, inl, inr}
use Rattle.std.specs.Prelude.{slice_get}
use Rattle.fate_laws.proofs.Attempts.{Along, Keeps}
use Rattle.fate_laws.proofs.Extends.{Extends, and_true, both_true}
use Rattle.fate_laws.proofs.Stays.{output_kept, unsettled_past}
use Rattle.fate_laws.proofs.Steps.{LinesKept, fed_kept, base_kept}
use Rattle.fate_laws.specs.Orders.{IsFlow}
use Rattle.fate_laws.specs.StartedScopes.{Reaches}
use Rattle.fate_laws.specs.WellFormed.{IsWell, Well}
use Rattle.flow_model.specs.Fates.{Ends, joined, is_open}
use Rattle.flow_model.specs.ScopeContainers.{base_of, output_by}
use Rattle.flow_model.specs.Scopes.{Known, at, all_of, Gives, Runs, Trial, gives, is_fed, trial, attempts_at, values_at, fate_given, scope_ends, output, tree_ends}
use Rattle.flow_model.specs.declared.graphs.Activity.{Activity}
use Rattle.flow_model.specs.declared.graphs.Container.{Container}
use Rattle.flow_model.specs.declared.graphs.Graph.{Graph, out-Graph}
use Rattle.flow_model.specs.declared.graphs.Template.{Template}
use Rattle.flow_model.specs.declared.instances.Part.{Part}
use Rattle.view_laws.proofs.Honest.{IfClosed, IsHonest, Honest, IfInside, IsFull, Full}
use Rattle.view_laws.proofs.MoreDue.{open_joined}
use Rattle.view_laws.proofs.QuietScopes.{Agree, gives_same, tree_quiet, scope_quiet, scope_fate}
use Rattle.view_laws.proofs.QuietScopes.{with_well as full_well}
use Rattle.view_laws.proofs.ShownFates.{started_open}
use Rattle.view_laws.proofs.SoundScopes.{along_map, gives_right, scope_sound, with_well, tree_sound}
use Rattle.view_laws.proofs.StartedParts.{Starts}
use Rattle.view_laws.specs.Messages.{Note}
use Rattle.view_laws.specs.Runs.{Root}

-- ---- attempts

reaches_on : (given given' : Gives) (t : Trial) (n j : ℕ) (i : Container) (c : ℕ) (i' : Container) → Along (Keeps given given') given t n j i
    → Reaches (suc n) given t j i c i' → Reaches (suc n) given' t j i c i'
reaches_on given given' t zero j i c i' along (inl r) = inl r
reaches_on given given' t zero j i c i' along (inr r) = absurd r.3
reaches_on given given' t (suc n) j i c i' along (inl r) = inl r
reaches_on given given' t (suc n) j i c i' along (inr r) =
    inr (r.0, along.0 r.0 r.1, r.2, reaches_on given given' t n (j + 1) (t.loops r.0) c i' (along.1 r.0 r.1 r.2) r.3)

reaches_back : (given given' : Gives) (t : Trial) (n j : ℕ) (i : Container) (c : ℕ) (i' : Container) → Along (Agree given given') given t n j i
    → Reaches (suc n) given' t j i c i' → Reaches (suc n) given t j i c i'
reaches_back given given' t zero j i c i' along (inl r) = inl r
reaches_back given given' t zero j i c i' along (inr r) = absurd r.3
reaches_back given given' t (suc n) j i c i' along (inl r) = inl r
reaches_back given given' t (suc n) j i c i' along (inr r) =
    let gave : given j i ≡ Some r.0 = sym along.0 ∙ r.1 in
    inr (r.0, gave, r.2, reaches_back given given' t n (j + 1) (t.loops r.0) c i' (along.1 r.0 gave r.2) r.3)

module _ (r : Root) (qf : Note → ℕ) where
  -- ---- one scope, by the view and then by the completions

  module _ (ts : List Template) (k : Known) (runs runs' : Runs) (g : Graph) (input : Container) (inner : Graph → Type 0) (well : IsWell ts g inner)
      (below : Known → Graph → Container → Type 0) (honest : IsHonest ts k runs g input below)
      (right : (q : Part) (h : Graph) (i out : Container) → below (at q k) h i → runs (at q k) h i ≡ Some out → runs' (all_of (at q k)) h i ≡ Some out) where
    abbrev ev : Ends
    ev = scope_ends ts k runs g input

    abbrev ef : Ends
    ef = scope_ends ts (all_of k) runs' g input

    all_kept : Extends ev ef
    all_kept = scope_sound ts k runs runs' g input well.order well.flow below honest right

    lines : (a : ℕ) → LinesKept (out-Graph g).lines a ev ef
    lines a = λ i d less to b from s. all_kept.kept b s

    start_kept : (a : ℕ) (activity : Activity) (c : ℕ) (i' : Container) → slice_get (out-Graph g).activities a ≡ Some activity
        → (is_open (fate_given ts k runs g input ev a) && is_fed (out-Graph g).lines a ev) ≡ true
        → Reaches (suc k.most) (gives ts k runs activity.name activity.work) (trial g a activity (base_of g activity a input ev)) 1 (base_of g activity a input ev) c i'
        → ((is_open (fate_given ts (all_of k) runs' g input ef a) && is_fed (out-Graph g).lines a ef) ≡ true)
        × Reaches (suc k.most) (gives ts (all_of k) runs' activity.name activity.work) (trial g a activity (base_of g activity a input ef)) 1 (base_of g activity a input ef) c i'
    start_kept a activity c i' is active reach =
        let both = and_true (is_open (fate_given ts k runs g input ev a)) _ active in
        let base = base_of g activity a input ev in (
          both_true _ _ (started_open ts k runs runs' g input inner well below honest right a activity is both.0) (fed_kept (out-Graph g).lines a ev ef (lines a) both.1),
          rw (base_kept g activity a input ev ef (lines a) both.1)
              (reaches_on (gives ts k runs activity.name activity.work) (gives ts (all_of k) runs' activity.name activity.work) (trial g a activity base) k.most 1 base c i'
              (along_map (IfClosed below ts k activity.name activity.work) _ _ (trial g a activity base)
              (gives_right ts k runs runs' g input well.order well.flow below honest right activity.name activity.work)
              k.most 1 base (honest.inside a activity is both.1))
              reach),
        )

  pub tree_start_kept : (ts : List Template) (depth : ℕ) (k : Known) (g : Graph) (i : Container) → Well ts depth g → Honest ts depth k g i
      → (a : ℕ) (activity : Activity) (c : ℕ) (i' : Container) → Starts ts depth k g i a activity c i' → Starts ts depth (all_of k) g i a activity c i'
  tree_start_kept ts zero k g i well honest = λ a activity c i' s.
      let kept = start_kept ts k (output ts zero) (output ts zero) g i (λ h. Unit {0}) well (λ k' h j. Unit {0}) honest (λ q h j out ok gave. cc) a activity c i' s.is s.active s.reach in
      record { is = s.is; active = kept.0; reach = kept.1 }
  tree_start_kept ts (suc depth) k g i well honest = λ a activity c i' s.
      let honest' = with_well ts k (output ts (suc depth)) g i (Well ts depth) (Honest ts depth) well honest in
      let below : (q : Part) (h : Graph) (j out : Container) → Well ts depth h × Honest ts depth (at q k) h j → output ts (suc depth) (at q k) h j ≡ Some out → output ts (suc depth) (all_of (at q k)) h j ≡ Some out =
      λ q h j out ok gave.
      output_kept h j (tree_ends ts depth (at q k) h j) (tree_ends ts depth (all_of (at q k)) h j) (tree_sound ts depth (at q k) h j ok.0 ok.1)
      (λ b past. unsettled_past ts (all_of (at q k)) (output ts depth) h j _ b past ∙ sym (unsettled_past ts (at q k) (output ts depth) h j _ b past))
      out gave in
      let kept = start_kept ts k (output ts (suc depth)) (output ts (suc depth)) g i (Well ts depth) well (λ k' h j. Well ts depth h × Honest ts depth k' h j) honest' below a activity c i' s.is s.active s.reach in
      record { is = s.is; active = kept.0; reach = kept.1 }

  -- ---- one scope, by the completions and then by the view, where all that is due was taken

  module _ (ts : List Template) (k : Known) (runs runs' : Runs) (g : Graph) (input : Container) (order : List ℕ) (flow : IsFlow g order)
      (below : Known → Graph → Container → Type 0) (full : IsFull ts k runs g input below)
      (same : (q : Part) (h : Graph) (i : Container) → below (at q k) h i → runs' (all_of (at q k)) h i ≡ runs (at q k) h i) where
    joins : (a : ℕ) (activity : Activity) → slice_get (out-Graph g).activities a ≡ Some activity
        → is_open (fate_given ts k runs g input (scope_ends ts k runs g input) a) ≡ true → joined activity.join (values_at k (out-Graph g).controls (scope_ends ts k runs g input) a) ≡ Some true
    joins a activity is shown =
        open_joined r qf activity (joined activity.join (values_at k (out-Graph g).controls (scope_ends ts k runs g input) a)) (attempts_at ts k runs g input (scope_ends ts k runs g input) a (Some activity)) (rw (full.begun, is) at shown)

    abbrev IsStart : Known → Runs → Ends → ℕ → Activity → ℕ → Container → Type 0
    IsStart l run e a activity c i' =
        ((is_open (fate_given ts l run g input e a) && is_fed (out-Graph g).lines a e) ≡ true)
        × Reaches (suc k.most) (gives ts l run activity.name activity.work) (trial g a activity (base_of g activity a input e)) 1 (base_of g activity a input e) c i'

    start_back : (a : ℕ) (activity : Activity) (c : ℕ) (i' : Container) → slice_get (out-Graph g).activities a ≡ Some activity
        → IsStart (all_of k) runs' (scope_ends ts (all_of k) runs' g input) a activity c i' → IsStart k runs (scope_ends ts k runs g input) a activity c i'
    start_back a activity c i' is start =
        let e : Ends = scope_ends ts k runs g input in
        let ends : scope_ends ts k runs g input ≡ scope_ends ts (all_of k) runs' g input = scope_quiet ts k runs runs' g input order flow below full same in
        let fate = scope_fate ts k runs runs' g input order flow below full same a in
        let both = and_true (is_open (fate_given ts (all_of k) runs' g input (scope_ends ts (all_of k) runs' g input) a)) _ start.0 in
        let shown : is_open (fate_given ts k runs g input (scope_ends ts k runs g input) a) ≡ true = ap is_open fate ∙ both.0 in
        let fed : is_fed (out-Graph g).lines a (scope_ends ts k runs g input) ≡ true = ap (is_fed (out-Graph g).lines a) ends ∙ both.1 in
        let base = base_of g activity a input (scope_ends ts k runs g input) in
        let reach : Reaches (suc k.most) (gives ts (all_of k) runs' activity.name activity.work) (trial g a activity base) 1 base c i' = rw ends start.1 in (
          both_true _ _ shown fed,
          reaches_back (gives ts k runs activity.name activity.work) (gives ts (all_of k) runs' activity.name activity.work) (trial g a activity base) k.most 1 base c i'
              (along_map (IfInside runs below ts k activity.name activity.work) (Agree (gives ts k runs activity.name activity.work) (gives ts (all_of k) runs' activity.name activity.work))
              (gives ts k runs activity.name activity.work) (trial g a activity base) (gives_same ts k runs runs' g input order flow below full same activity.name activity.work)
              k.most 1 base (full.inside a activity is (joins a activity is shown) fed))
              reach,
        )

  pub tree_start_back : (ts : List Template) (depth : ℕ) (k : Known) (g : Graph) (i : Container) → Well ts depth g → Full ts depth k g i
      → (a : ℕ) (activity : Activity) (c : ℕ) (i' : Container) → Starts ts depth (all_of k) g i a activity c i' → Starts ts depth k g i a activity c i'
  tree_start_back ts zero k g i well full = λ a activity c i' s.
      let back = start_back ts k (output ts zero) (output ts zero) g i well.order well.flow (λ k' h j. Unit {0}) full (λ q h j ok. refl) a activity c i' s.is (s.active, s.reach) in
      record { is = s.is; active = back.0; reach = back.1 }
  tree_start_back ts (suc depth) k g i well full = λ a activity c i' s.
      let back =
      start_back ts k (output ts (suc depth)) (output ts (suc depth)) g i well.order well.flow (λ k' h j. Well ts depth h × Full ts depth k' h j)
      (full_well ts k (output ts (suc depth)) g i (Well ts depth) (Full ts depth) well full)
      (λ q h j ok. ap (output_by h j) (sym (tree_quiet ts depth (at q k) h j ok.0 ok.1))) a activity c i' s.is (s.active, s.reach) in
      record { is = s.is; active = back.0; reach = back.1 }
