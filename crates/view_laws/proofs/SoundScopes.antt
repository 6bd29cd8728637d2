-- Where what was sent is so, what is settled in the view is so by the completions alone.
use Rattle.fate_laws.proofs.Attempts.{Along, Keeps}
use Rattle.fate_laws.proofs.Extends.{Extends, or_false}
use Rattle.fate_laws.proofs.Forward.{forward}
use Rattle.fate_laws.proofs.Rounds.{solved}
use Rattle.fate_laws.proofs.Stays.{output_kept, unsettled_past, some_map}
use Rattle.fate_laws.proofs.Steps.{LinesKept, step_kept, attempts_kept}
use Rattle.fate_laws.specs.Orders.{IsFlow}
use Rattle.fate_laws.specs.WellFormed.{IsWell, Well}
use Rattle.flow_model.specs.Containers.{with_return_code}
use Rattle.flow_model.specs.Fates.{Ends, connector_value, is_settled}
use Rattle.flow_model.specs.ScopeContainers.{graph_of, base_of}
use Rattle.flow_model.specs.Scopes.{Known, at, all_of, Gives, Runs, Trial, part, scope_gives, gives, trial, step, scope_ends, output, tree_ends}
use Rattle.flow_model.specs.declared.graphs.Container.{Container}
use Rattle.flow_model.specs.declared.graphs.Control.{Control}
use Rattle.flow_model.specs.declared.graphs.Graph.{Graph, out-Graph}
use Rattle.flow_model.specs.declared.graphs.Template.{Template}
use Rattle.flow_model.specs.declared.graphs.Work.{Work, Program, Block, Process}
use Rattle.flow_model.specs.declared.instances.Part.{Part}
use Rattle.flow_model.specs.declared.instances.SourceEnd.{SourceEnd}
use Rattle.flow_model.specs.declared.names.Name.{Name}
use Rattle.std.proofs.Common.{◌≡◌, ℕ, zero, suc, ◌+◌, ◌≤◌, ◌<◌, ◌==◌, Bool, true, false, List, [], ◌∷◌, map, length, refl, sym, ap, ◌∙◌, Option, Some, None, arith, inl, inr}
use Rattle.std.proofs.lemmas.Bool.{cases_lt}
use Rattle.std.proofs.lemmas.Bool.Decides.{eqb_tells}
use Rattle.std.specs.List.{list_any, filter, All}
use Rattle.std.specs.Prelude.{is_none, slice_index}
use Rattle.view_laws.proofs.Honest.{IfClosed, IsHonest, Honest}
use Rattle.view_laws.specs.Runs.{told}
use Rattle.flow_model.specs.declared.instances.SourceEnd.TheVariants as end

settled_of_value : (all : List Control) (c : Control) (s : SourceEnd) (v : Bool) → connector_value all c s ≡ Some v → is_settled s ≡ true
settled_of_value all c end.Unsettled v h = cc
settled_of_value all c end.Dead v h = refl
settled_of_value all c (end.Finished out) v h = refl

one_right : (all : List Control) (c : Control) (s s' : SourceEnd) (o : Option Bool) → ((v : Bool) → o ≡ Some v → connector_value all c s ≡ Some v)
    → (is_settled s ≡ true → s' ≡ s) → is_none o ≡ false → connector_value all c s' ≡ o
one_right all c s s' None told right known = cc
one_right all c s s' (Some v) told right known =
    let value = told v refl in
    ap (connector_value all c) (right (settled_of_value all c s v value)) ∙ value

module _ (k : Known) (controls : List Control) (ev ef : Ends) where
  abbrev counted : Control → Option Bool
  counted c = k.sent [] c.from c.to (connector_value controls c (ev c.from))

  pub values_right : (a : ℕ) (cs : List Control)
      → All (λ c. (v : Bool) → counted c ≡ Some v → connector_value controls c (ev c.from) ≡ Some v) cs
      → All (λ c. c.to ≡ a → is_settled (ev c.from) ≡ true → ef c.from ≡ ev c.from) cs
      → list_any is_none (map counted (filter (λ c. c.to == a) cs)) ≡ false
      → map (λ c. connector_value controls c (ef c.from)) (filter (λ c. c.to == a) cs) ≡ map counted (filter (λ c. c.to == a) cs)
  values_right a [] told right known = refl
  values_right a (c ∷ cs) told right known = elim (eqb_tells c.to a) [
    | inl is ↦
        let both = or_false (is_none (counted c)) _ (rw is.0 at known) in
        let first = one_right controls c (ev c.from) (ef c.from) (counted c) (told 0 c (omega arith)) (right 0 c (omega arith) is.1) both.0 in
        let rest = values_right a cs (λ i d h. told (suc i) d (omega arith)) (λ i d h. right (suc i) d (omega arith)) both.1 in
        rw is.0 cc
    | inr other ↦
        let rest = values_right a cs (λ i d h. told (suc i) d (omega arith)) (λ i d h. right (suc i) d (omega arith)) (rw other.0 at known) in
        rw other.0 rest
  ]

pub along_map : (p q : ℕ → Container → Type 0) (gives : Gives) (t : Trial) → ((j : ℕ) (i : Container) → p j i → q j i) → (n j : ℕ) (i : Container)
    → Along p gives t n j i → Along q gives t n j i
along_map p q gives t more zero j i h = tt
along_map p q gives t more (suc n) j i h = (more j i h.0, λ out is on. along_map p q gives t more n (j + 1) (t.loops out) (h.1 out is on))

-- ---- one scope

module _ (ts : List Template) (k : Known) (runs runs' : Runs) (g : Graph) (input : Container) (order : List ℕ) (flow : IsFlow g order)
    (below : Known → Graph → Container → Type 0) (honest : IsHonest ts k runs g input below)
    (right : (q : Part) (h : Graph) (i out : Container) → below (at q k) h i → runs (at q k) h i ≡ Some out → runs' (all_of (at q k)) h i ≡ Some out) where
  abbrev ev : Ends
  ev = scope_ends ts k runs g input

  abbrev ef : Ends
  ef = scope_ends ts (all_of k) runs' g input

  scope_right : (name : Name) (w : Work) (o : Option Graph) (j : ℕ) (i : Container) → ((h : Graph) → o ≡ Some h → k.closed (part name j ∷ []) ≡ true → below (at (part name j) k) h i)
      → (out : Container) → scope_gives k runs o (part name j) i ≡ Some out → scope_gives (all_of k) runs' o (part name j) i ≡ Some out
  scope_right name w None j i ok out h = cc
  scope_right name w (Some g') j i ok out h = go (k.closed (part name j ∷ [])) refl
    where
      go : (b : Bool) → k.closed (part name j ∷ []) ≡ b → scope_gives (all_of k) runs' (Some g') (part name j) i ≡ Some out
      go false is = let n : None ≡ Some out = rw is at h in cc
      go true is =
          some_map with_return_code (runs (at (part name j) k) g' i) (runs' (all_of (at (part name j) k)) g' i)
          (λ o' r. right (part name j) g' i o' (ok g' refl is) r) out (rw is at h)

  pub gives_right : (name : Name) (w : Work) (j : ℕ) (i : Container) → IfClosed below ts k name w j i → Keeps (gives ts k runs name w) (gives ts (all_of k) runs' name w) j i
  gives_right name (Program p) j i ok = λ out h. h
  gives_right name (Block g') j i ok = λ out h. scope_right name (Block g') (Some g') j i ok out h
  gives_right name (Process t) j i ok = λ out h. scope_right name (Process t) (graph_of ts t) j i ok out h

  right_upto : (n : ℕ) → n ≤ length order → (j : ℕ) → j < n → is_settled (ev (slice_index order j)) ≡ true → ef (slice_index order j) ≡ ev (slice_index order j)
  right_upto zero le j less s = absurd (omega arith)
  right_upto (suc n) le j less s =
      let a = slice_index order j in
      let inside : j < length order = omega arith in
      let long : length order ≤ length (out-Graph g).activities = omega (arith, flow.ordered.long) in
      let now = solved (step ts k runs g input) order (forward ts k runs g input order flow) (length (out-Graph g).activities) long j inside in
      let then_ = solved (step ts (all_of k) runs' g input) order (forward ts (all_of k) runs' g input order flow) (length (out-Graph g).activities) long j inside in
      let controls : All (λ c. c.to ≡ a → is_settled (ev c.from) ≡ true → ef c.from ≡ ev c.from) (out-Graph g).controls = λ i d h to settled.
      let source = flow.ordered.forward j inside i d h to in
      rw source.2 at (right_upto n (omega arith) source.0 (omega arith) (rw (← source.2) at settled)) in
      let lines : LinesKept (out-Graph g).lines a ev ef = λ i d h to b from settled.
      let source = flow.fed j inside i d h to b from in
      rw source.2 at (right_upto n (omega arith) source.0 (omega arith) (rw (← source.2) at settled)) in
      let kept = step_kept ts k (all_of k) runs runs' g input ev ef a (λ h. refl)
      (values_right k (out-Graph g).controls ev ef a (out-Graph g).controls honest.told controls)
      (λ activity is. attempts_kept ts k (all_of k) runs runs' g input ev ef a activity (omega arith) lines
      (λ fed. along_map (IfClosed below ts k activity.name activity.work) _ _ (trial g a activity (base_of g activity a input ev)) (gives_right activity.name activity.work)
      k.most 1 (base_of g activity a input ev) (honest.inside a activity is fed)))
      (rw now at s) in
      then_ ∙ kept ∙ sym now

  pub scope_sound : Extends ev ef
  scope_sound = record {
    kept = λ a h. elim (cases_lt a (length (out-Graph g).activities)) [
      | inl inside ↦ let place = flow.ordered.covers a inside in rw place.2 at (right_upto (length order) (omega arith) place.0 place.1 (rw (← place.2) at h))
      | inr past ↦ unsettled_past ts (all_of k) runs' g input _ a past ∙ sym (unsettled_past ts k runs g input _ a past)
    ];
  }

-- ---- to any depth

pub with_well : (ts : List Template) (k : Known) (runs : Runs) (g : Graph) (i : Container) (inner : Graph → Type 0) (below : Known → Graph → Container → Type 0)
    → IsWell ts g inner → IsHonest ts k runs g i below → IsHonest ts k runs g i (λ k' h j. inner h × below k' h j)
with_well ts k runs g i inner below well honest = record {
  told = honest.told;
  inside = λ a activity is fed.
      along_map (IfClosed below ts k activity.name activity.work) (IfClosed (λ k' h j. inner h × below k' h j) ts k activity.name activity.work) (gives ts k runs activity.name activity.work)
      (trial g a activity (base_of g activity a i (scope_ends ts k runs g i)))
      (λ n j ok h of closed. (well.inside a activity is h of, ok h of closed))
      k.most 1 (base_of g activity a i (scope_ends ts k runs g i)) (honest.inside a activity is fed);
}

pub tree_sound : (ts : List Template) (depth : ℕ) (k : Known) (g : Graph) (i : Container) → Well ts depth g → Honest ts depth k g i
    → Extends (tree_ends ts depth k g i) (tree_ends ts depth (all_of k) g i)
tree_sound ts zero k g i well honest =
    scope_sound ts k (output ts zero) (output ts zero) g i well.order well.flow (λ k' h j. Unit {0}) honest (λ q h j out ok gave. cc)
tree_sound ts (suc depth) k g i well honest =
    scope_sound ts k (output ts (suc depth)) (output ts (suc depth)) g i well.order well.flow (λ k' h j. Well ts depth h × Honest ts depth k' h j)
    (with_well ts k (output ts (suc depth)) g i (Well ts depth) (Honest ts depth) well honest)
    (λ q h j out ok gave.
    output_kept h j (tree_ends ts depth (at q k) h j) (tree_ends ts depth (all_of (at q k)) h j) (tree_sound ts depth (at q k) h j ok.0 ok.1)
    (λ b past. unsettled_past ts (all_of (at q k)) (output ts depth) h j _ b past ∙ sym (unsettled_past ts (at q k) (output ts depth) h j _ b past))
    out gave)
