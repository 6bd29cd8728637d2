-- Where all that is due was taken, the view is what the completions alone tell.
use Rattle.fate_laws.proofs.Attempts.{Along}
use Rattle.fate_laws.proofs.Forward.{forward}
use Rattle.fate_laws.proofs.Rounds.{solved, unique}
use Rattle.fate_laws.proofs.Stays.{unsettled_past}
use Rattle.fate_laws.specs.Orders.{IsFlow}
use Rattle.fate_laws.specs.WellFormed.{IsWell, Well}
use Rattle.flow_model.specs.Conditions.{holds}
use Rattle.flow_model.specs.Containers.{with_return_code}
use Rattle.flow_model.specs.Fates.{Ends, connector_value, joined, fate_by, ended}
use Rattle.flow_model.specs.ScopeContainers.{graph_of, base_of, output_by}
use Rattle.flow_model.specs.Scopes.{Known, at, all_of, Gives, Runs, Trial, and_then, tries, part, scope_gives, gives, is_fed, trial, attempts_at, values_at, fate_at, fate_given, step, scope_ends, output, tree_ends, tree_fate}
use Rattle.flow_model.specs.declared.graphs.Activity.{Activity}
use Rattle.flow_model.specs.declared.graphs.Container.{Container}
use Rattle.flow_model.specs.declared.graphs.Control.{Control}
use Rattle.flow_model.specs.declared.graphs.Graph.{Graph, out-Graph}
use Rattle.flow_model.specs.declared.graphs.Template.{Template}
use Rattle.flow_model.specs.declared.graphs.Work.{Work, Program, Block, Process}
use Rattle.flow_model.specs.declared.instances.Part.{Part}
use Rattle.flow_model.specs.declared.names.Name.{Name}
use Rattle.std.proofs.Common.{◌≡◌, ℕ, zero, suc, ◌+◌, ◌≤◌, ◌<◌, ◌==◌, Bool, true, false, List, [], ◌∷◌, map, length, refl, sym, ap, ◌∙◌, Option, Some, None, arith, inl, inr}
use Rattle.std.proofs.Math.Path.{fun_ext}
use Rattle.std.proofs.lemmas.Bool.{cases_lt}
use Rattle.std.proofs.lemmas.Bool.Decides.{eqb_tells}
use Rattle.std.specs.List.{filter, All}
use Rattle.std.specs.Option.{option_map}
use Rattle.std.specs.Prelude.{slice_get, slice_index}
use Rattle.view_laws.proofs.Honest.{IsFullAt, IfInside, IsFull, Full}
use Rattle.view_laws.proofs.SoundScopes.{along_map}
use Rattle.view_laws.specs.Runs.{told}

abbrev pub Agree : Gives → Gives → ℕ → Container → Type 0
Agree gives gives' j i = gives' j i ≡ gives j i

pub tries_same : (gives gives' : Gives) (t : Trial) (n j : ℕ) (i : Container) → Along (Agree gives gives') gives t n j i → tries n gives' t j i ≡ tries n gives t j i
tries_same gives gives' t zero j i along = refl
tries_same gives gives' t (suc n) j i along =
    rw along.0 (go (gives j i) refl (λ out a. tries_same gives gives' t n (j + 1) (t.loops out) a))
  where
    on_exit : (out : Container) → (holds t.exit out ≡ false → Along (Agree gives gives') gives t n (j + 1) (t.loops out))
        → (Along (Agree gives gives') gives t n (j + 1) (t.loops out) → tries n gives' t (j + 1) (t.loops out) ≡ tries n gives t (j + 1) (t.loops out))
        → (b : Bool) → holds t.exit out ≡ b
        → and_then t (Some out) (λ o. tries n gives' t (j + 1) (t.loops o)) ≡ and_then t (Some out) (λ o. tries n gives t (j + 1) (t.loops o))
    on_exit out more rest true is = rw is refl
    on_exit out more rest false is = rw is (ap (λ os. out ∷ os) (rest (more is)))

    go : (o : Option Container) → gives j i ≡ o
        → ((out : Container) → Along (Agree gives gives') gives t n (j + 1) (t.loops out) → tries n gives' t (j + 1) (t.loops out) ≡ tries n gives t (j + 1) (t.loops out))
        → and_then t (gives j i) (λ o. tries n gives' t (j + 1) (t.loops o)) ≡ and_then t (gives j i) (λ o. tries n gives t (j + 1) (t.loops o))
    go None is rest = rw is refl
    go (Some out) is rest = rw is (on_exit out (along.1 out is) (rest out) (holds t.exit out) refl)

values_told : (k : Known) (controls : List Control) (e : Ends) (a : ℕ) (cs : List Control)
    → All (λ c. k.sent [] c.from c.to (connector_value controls c (e c.from)) ≡ connector_value controls c (e c.from)) cs
    → map (λ c. connector_value controls c (e c.from)) (filter (λ c. c.to == a) cs) ≡ map (λ c. k.sent [] c.from c.to (connector_value controls c (e c.from))) (filter (λ c. c.to == a) cs)
values_told k controls e a [] told = refl
values_told k controls e a (c ∷ cs) told =
    let first = told 0 c (omega arith) in
    let rest = values_told k controls e a cs (λ i d h. told (suc i) d (omega arith)) in
    elim (eqb_tells c.to a) [
      | inl is ↦ rw is.0 cc
      | inr other ↦ rw other.0 rest
    ]

-- an activity of the same join and, where that is true, of the same attempts
fate_by_same : (a : Activity) (v v' : Option Bool) (outs outs' : List Container) → v' ≡ v → (v ≡ Some true → outs' ≡ outs)
    → (fate_by a v' outs' ≡ fate_by a v outs) × (ended (fate_by a v' outs') outs' ≡ ended (fate_by a v outs) outs)
fate_by_same a None v' outs outs' same stay = rw same (refl, refl)
fate_by_same a (Some false) v' outs outs' same stay = rw same (refl, refl)
fate_by_same a (Some true) v' outs outs' same stay = rw (same, stay refl) (refl, refl)

-- ---- one scope

module _ (ts : List Template) (k : Known) (runs runs' : Runs) (g : Graph) (input : Container) (order : List ℕ) (flow : IsFlow g order)
    (below : Known → Graph → Container → Type 0) (full : IsFull ts k runs g input below)
    (same : (q : Part) (h : Graph) (i : Container) → below (at q k) h i → runs' (all_of (at q k)) h i ≡ runs (at q k) h i) where
  abbrev ev : Ends
  ev = scope_ends ts k runs g input

  abbrev ef : Ends
  ef = scope_ends ts (all_of k) runs' g input

  none_gives : (q : Part) (h : Graph) (i : Container) (o : Option Container) → runs (at q k) h i ≡ o
      → ((out : Container) → o ≡ Some out → k.closed (q ∷ []) ≡ true) → k.closed (q ∷ []) ≡ false → option_map with_return_code (runs (at q k) h i) ≡ None
  none_gives q h i None is told shut = rw is refl
  none_gives q h i (Some out) is told shut = let n : false ≡ true = sym shut ∙ told out refl in cc

  scope_same : (o : Option Graph) (q : Part) (i : Container) → ((h : Graph) → o ≡ Some h → IsFullAt runs below k q h i)
      → scope_gives (all_of k) runs' o q i ≡ scope_gives k runs o q i
  scope_same None q i ok = refl
  scope_same (Some h) q i ok = go (k.closed (q ∷ [])) refl
    where
      go : (b : Bool) → k.closed (q ∷ []) ≡ b → scope_gives (all_of k) runs' (Some h) q i ≡ scope_gives k runs (Some h) q i
      go true is = rw is (ap (option_map with_return_code) (same q h i (ok h refl).inside))
      go false is = rw is (ap (option_map with_return_code) (same q h i (ok h refl).inside) ∙ none_gives q h i (runs (at q k) h i) refl (ok h refl).closed is)

  pub gives_same : (name : Name) (w : Work) (j : ℕ) (i : Container) → IfInside runs below ts k name w j i → Agree (gives ts k runs name w) (gives ts (all_of k) runs' name w) j i
  gives_same name (Program p) j i ok = refl
  gives_same name (Block h) j i ok = scope_same (Some h) (part name j) i ok
  gives_same name (Process t) j i ok = scope_same (graph_of ts t) (part name j) i ok

  attempts_same : (a : ℕ) (activity : Activity) → slice_get (out-Graph g).activities a ≡ Some activity
      → joined activity.join (values_at k (out-Graph g).controls ev a) ≡ Some true
      → attempts_at ts (all_of k) runs' g input ev a (Some activity) ≡ attempts_at ts k runs g input ev a (Some activity)
  attempts_same a activity is open_ = go (is_fed (out-Graph g).lines a ev) refl
    where
      go : (b : Bool) → is_fed (out-Graph g).lines a ev ≡ b → attempts_at ts (all_of k) runs' g input ev a (Some activity) ≡ attempts_at ts k runs g input ev a (Some activity)
      go false fed = rw fed refl
      go true fed =
          rw fed
          (tries_same (gives ts k runs activity.name activity.work) (gives ts (all_of k) runs' activity.name activity.work) (trial g a activity (base_of g activity a input ev))
          k.most 1 (base_of g activity a input ev)
          (along_map (IfInside runs below ts k activity.name activity.work) (Agree (gives ts k runs activity.name activity.work) (gives ts (all_of k) runs' activity.name activity.work))
          (gives ts k runs activity.name activity.work) (trial g a activity (base_of g activity a input ev)) (gives_same activity.name activity.work)
          k.most 1 (base_of g activity a input ev) (full.inside a activity is open_ fed)))

  -- at the view's ends both steps give the same
  pub both_same : (a : ℕ) → (fate_given ts (all_of k) runs' g input ev a ≡ fate_given ts k runs g input ev a) × (step ts (all_of k) runs' g input ev a ≡ step ts k runs g input ev a)
  both_same a = rw full.begun (go (slice_get (out-Graph g).activities a) refl)
    where
      Same : Option Activity → Type 0
      Same o = (fate_at (all_of k) (out-Graph g).controls ev a o (attempts_at ts (all_of k) runs' g input ev a o) ≡ fate_at k (out-Graph g).controls ev a o (attempts_at ts k runs g input ev a o))
          × (ended (fate_at (all_of k) (out-Graph g).controls ev a o (attempts_at ts (all_of k) runs' g input ev a o)) (attempts_at ts (all_of k) runs' g input ev a o)
          ≡ ended (fate_at k (out-Graph g).controls ev a o (attempts_at ts k runs g input ev a o)) (attempts_at ts k runs g input ev a o))

      go : (o : Option Activity) → slice_get (out-Graph g).activities a ≡ o → Same (slice_get (out-Graph g).activities a)
      go None is = rw is (refl, refl)
      go (Some activity) is =
          rw is
          (fate_by_same activity (joined activity.join (values_at k (out-Graph g).controls ev a)) (joined activity.join (values_at (all_of k) (out-Graph g).controls ev a))
          (attempts_at ts k runs g input ev a (Some activity)) (attempts_at ts (all_of k) runs' g input ev a (Some activity))
          (ap (joined activity.join) (values_told k (out-Graph g).controls ev a (out-Graph g).controls full.told)) (attempts_same a activity is))

  same_at : (j : ℕ) → j < length order → ev (slice_index order j) ≡ ef (slice_index order j)
  same_at j inside =
      let long : length order ≤ length (out-Graph g).activities = omega (arith, flow.ordered.long) in
      unique (step ts (all_of k) runs' g input) order (forward ts (all_of k) runs' g input order flow) ev
      (λ i less. solved (step ts k runs g input) order (forward ts k runs g input order flow) (length (out-Graph g).activities) long i less ∙ sym (both_same (slice_index order i)).1)
      (length (out-Graph g).activities) long (length order) (omega arith) j inside

  pub scope_quiet : ev ≡ ef
  scope_quiet = fun_ext (λ a. elim (cases_lt a (length (out-Graph g).activities)) [
    | inl inside ↦ let place = flow.ordered.covers a inside in rw place.2 at (same_at place.0 place.1)
    | inr past ↦ unsettled_past ts k runs g input _ a past ∙ sym (unsettled_past ts (all_of k) runs' g input _ a past)
  ])

  pub scope_fate : (a : ℕ) → fate_given ts k runs g input ev a ≡ fate_given ts (all_of k) runs' g input ef a
  scope_fate a = sym (both_same a).0 ∙ ap (λ e. fate_given ts (all_of k) runs' g input e a) scope_quiet

-- ---- to any depth

pub with_well : (ts : List Template) (k : Known) (runs : Runs) (g : Graph) (i : Container) (inner : Graph → Type 0) (below : Known → Graph → Container → Type 0)
    → IsWell ts g inner → IsFull ts k runs g i below → IsFull ts k runs g i (λ k' h j. inner h × below k' h j)
with_well ts k runs g i inner below well full = record {
  begun = full.begun;
  told = full.told;
  inside = λ a activity is open_ fed.
      along_map (IfInside runs below ts k activity.name activity.work) (IfInside runs (λ k' h j. inner h × below k' h j) ts k activity.name activity.work) (gives ts k runs activity.name activity.work)
      (trial g a activity (base_of g activity a i (scope_ends ts k runs g i)))
      (λ n j ok h of. record { closed = (ok h of).closed; inside = (well.inside a activity is h of, (ok h of).inside) })
      k.most 1 (base_of g activity a i (scope_ends ts k runs g i)) (full.inside a activity is open_ fed);
}

pub tree_quiet : (ts : List Template) (depth : ℕ) (k : Known) (g : Graph) (i : Container) → Well ts depth g → Full ts depth k g i
    → tree_ends ts depth k g i ≡ tree_ends ts depth (all_of k) g i
tree_quiet ts zero k g i well full =
    scope_quiet ts k (output ts zero) (output ts zero) g i well.order well.flow (λ k' h j. Unit {0}) full (λ q h j ok. refl)
tree_quiet ts (suc depth) k g i well full =
    scope_quiet ts k (output ts (suc depth)) (output ts (suc depth)) g i well.order well.flow (λ k' h j. Well ts depth h × Full ts depth k' h j)
    (with_well ts k (output ts (suc depth)) g i (Well ts depth) (Full ts depth) well full)
    (λ q h j ok. ap (output_by h j) (sym (tree_quiet ts depth (at q k) h j ok.0 ok.1)))

pub tree_quiet_fate : (ts : List Template) (depth : ℕ) (k : Known) (g : Graph) (i : Container) → Well ts depth g → Full ts depth k g i
    → (a : ℕ) → tree_fate ts depth k g i a ≡ tree_fate ts depth (all_of k) g i a
tree_quiet_fate ts zero k g i well full a =
    scope_fate ts k (output ts zero) (output ts zero) g i well.order well.flow (λ k' h j. Unit {0}) full (λ q h j ok. refl) a
tree_quiet_fate ts (suc depth) k g i well full a =
    scope_fate ts k (output ts (suc depth)) (output ts (suc depth)) g i well.order well.flow (λ k' h j. Well ts depth h × Full ts depth k' h j)
    (with_well ts k (output ts (suc depth)) g i (Well ts depth) (Full ts depth) well full)
    (λ q h j ok. ap (output_by h j) (sym (tree_quiet ts depth (at q k) h j ok.0 ok.1))) a
