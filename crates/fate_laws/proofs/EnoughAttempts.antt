-- Each attempt that gives an output has an item of its own, so as many attempts as there are items are enough.
use Rattle.std.proofs.Common.{◌≡◌, ℕ, zero, suc, ◌+◌, ◌≤◌, ◌<◌, Bool, true, false, if◌then◌else◌, List, [], ◌∷◌, length, refl, ap, ◌∙◌, Option, Some, None, arith}
use Rattle.std.proofs.Math.Path.{fun_ext}
use Rattle.std.proofs.lemmas.List.{length-map}
use Rattle.std.specs.Prelude.{slice_get}
use Rattle.std.specs.Option.{option_map}
use Rattle.flow_model.specs.declared.graphs.Activity.{Activity}
use Rattle.flow_model.specs.declared.graphs.Container.{Container}
use Rattle.flow_model.specs.declared.graphs.Graph.{Graph, out-Graph}
use Rattle.flow_model.specs.declared.graphs.Template.{Template}
use Rattle.flow_model.specs.declared.graphs.Work.{Work, Program, Block, Process}
use Rattle.flow_model.specs.declared.instances.Fact.{Fact}
use Rattle.flow_model.specs.declared.instances.Fate.TheVariants.{Waiting}
use Rattle.flow_model.specs.declared.instances.Part.{Part}
use Rattle.flow_model.specs.declared.names.Name.{Name}
use Rattle.flow_model.specs.Conditions.{holds}
use Rattle.flow_model.specs.Containers.{with_return_code}
use Rattle.flow_model.specs.Fates.{Ends, ended}
use Rattle.flow_model.specs.Rows.{by_facts}
use Rattle.flow_model.specs.ScopeContainers.{base_of, graph_in, graph_of, output_by}
use Rattle.flow_model.specs.Scopes.{Known, at, Gives, Runs, Trial, and_then, tries, part, scope_gives, gives, is_fed, trial, attempts_at, fate_at, fate_given, step, rounds, output, tree_ends}
use Rattle.fate_laws.specs.AttemptBounds.{IsSameScope}
use Rattle.fate_laws.specs.WellFormed.{IsWell, Well}
use Rattle.fate_laws.proofs.ItemsBelow.{Covers, among_strip, covers_at, strip, strip_at_most, some_item, count_from, count_at_most, count_split, has_items, items_of, facts_cover}
use Rattle.fate_laws.proofs.Peopled.{output_given}

-- the same, with another bound
abbrev pub resized : ℕ → Known → Known
resized m k = record { most = m; begun = k.begun; closed = k.closed; sent = k.sent; given = k.given }

-- ---- attempts

module _ (name : Name) (items : List (List Part)) (given given' : Gives) (t : Trial) (same : (j : ℕ) (i : Container) → given' j i ≡ given j i)
    (own : (j : ℕ) (i o : Container) → given j i ≡ Some o → 0 < length (strip (part name j) items)) where
  pub same_tries : (n m j : ℕ) (i : Container) → count_from name j items ≤ n → count_from name j items ≤ m → tries m given' t j i ≡ tries n given t j i
  same_tries zero zero j i le le' = refl
  same_tries zero (suc m) j i le le' = go (given j i) refl
    where
      go : (o : Option Container) → given j i ≡ o → tries (suc m) given' t j i ≡ []
      go None is = rw (same j i, is) refl
      go (Some out) is = let some = own j i out is in let split = count_split name j items in absurd (omega arith)
  same_tries (suc n) zero j i le le' = go (given j i) refl
    where
      go : (o : Option Container) → given j i ≡ o → [] ≡ tries (suc n) given t j i
      go None is = rw is refl
      go (Some out) is = let some = own j i out is in let split = count_split name j items in absurd (omega arith)
  same_tries (suc n) (suc m) j i le le' = go (given j i) refl (λ out. same_tries n m (j + 1) (t.loops out))
    where
      on_exit : (out : Container) → tries m given' t (j + 1) (t.loops out) ≡ tries n given t (j + 1) (t.loops out)
          → and_then t (Some out) (λ o. tries m given' t (j + 1) (t.loops o)) ≡ and_then t (Some out) (λ o. tries n given t (j + 1) (t.loops o))
      on_exit out rest = ap (λ os. out ∷ (if holds t.exit out then [] else os)) rest

      go : (o : Option Container) → given j i ≡ o
          → ((out : Container) → count_from name (j + 1) items ≤ n → count_from name (j + 1) items ≤ m → tries m given' t (j + 1) (t.loops out) ≡ tries n given t (j + 1) (t.loops out))
          → tries (suc m) given' t j i ≡ tries (suc n) given t j i
      go None is rest = rw (same j i, is) refl
      go (Some out) is rest =
          let some = own j i out is in
          let split = count_split name j items in
          rw (same j i, is) (on_exit out (rest out (omega arith) (omega arith)))

-- ---- one scope

some_given : (f : Container → Container) (r : Option Container) (o : Container) → option_map f r ≡ Some o → (u : Container) × (r ≡ Some u)
some_given f None o h = absurd (no_some h)
  where
    no_some : None ≡ Some o → ⊥
    no_some h = cc
some_given f (Some u) o h = (u, refl)

module _ (ts : List Template) (k : Known) (most : ℕ) (runs : Runs) (inner : Graph → Type 0) (items : List (List Part)) (covers : Covers k items)
    (enough : length items ≤ k.most) (enough' : length items ≤ most)
    (same : (q : Part) (h : Graph) (i : Container) → inner h → runs (at q (resized most k)) h i ≡ runs (at q k) h i)
    (own : (q : Part) (h : Graph) (i o : Container) → inner h → runs (at q k) h i ≡ Some o → 0 < length (strip q items)) where
  -- what an attempt gives is the same, and comes from an item of its own
  scope_same : (r : Option Graph) → ((h : Graph) → r ≡ Some h → inner h) → (q : Part) (i : Container) → scope_gives (resized most k) runs r q i ≡ scope_gives k runs r q i
  scope_same None ok q i = refl
  scope_same (Some h) ok q i = ap (λ o. if k.closed (q ∷ []) then option_map with_return_code o else None) (same q h i (ok h refl))

  scope_own : (r : Option Graph) → ((h : Graph) → r ≡ Some h → inner h) → (q : Part) (i o : Container) → scope_gives k runs r q i ≡ Some o → 0 < length (strip q items)
  scope_own None ok q i o gave = absurd (no_some gave)
    where
      no_some : None ≡ Some o → ⊥
      no_some h = cc
  scope_own (Some h) ok q i o gave = go (k.closed (q ∷ [])) refl
    where
      no_some : None ≡ Some o → ⊥
      no_some h = cc

      go : (b : Bool) → k.closed (q ∷ []) ≡ b → 0 < length (strip q items)
      go false is = absurd (no_some (rw is at gave))
      go true is = let u = some_given with_return_code (runs (at q k) h i) o (rw is at gave) in own q h i u.0 (ok h refl) u.1

  work_same : (name : Name) (w : Work) → ((h : Graph) → graph_in ts w ≡ Some h → inner h) → (j : ℕ) (i : Container)
      → gives ts (resized most k) runs name w j i ≡ gives ts k runs name w j i
  work_same name (Program p) ok j i = refl
  work_same name (Block g) ok j i = scope_same (Some g) ok (part name j) i
  work_same name (Process t) ok j i = scope_same (graph_of ts t) ok (part name j) i

  work_own : (name : Name) (w : Work) → ((h : Graph) → graph_in ts w ≡ Some h → inner h) → (j : ℕ) (i o : Container)
      → gives ts k runs name w j i ≡ Some o → 0 < length (strip (part name j) items)
  work_own name (Program p) ok j i o gave =
      some_item [] (strip (part name j) items) (among_strip (part name j) [] items (covers (part name j ∷ []) o gave))
  work_own name (Block g) ok j i o gave = scope_own (Some g) ok (part name j) i o gave
  work_own name (Process t) ok j i o gave = scope_own (graph_of ts t) ok (part name j) i o gave

  module _ (g : Graph) (well : IsWell ts g inner) (i : Container) where
    attempts_same : (e : Ends) (a : ℕ) (o : Option Activity) → slice_get (out-Graph g).activities a ≡ o
        → attempts_at ts (resized most k) runs g i e a o ≡ attempts_at ts k runs g i e a o
    attempts_same e a None is = refl
    attempts_same e a (Some activity) is =
        let base : Container = base_of g activity a i e in
        let count = count_at_most activity.name 1 items in
        ap (λ os. if is_fed (out-Graph g).lines a e then os else [])
        (same_tries activity.name items (gives ts k runs activity.name activity.work) (gives ts (resized most k) runs activity.name activity.work)
        (trial g a activity base)
        (work_same activity.name activity.work (well.inside a activity is))
        (work_own activity.name activity.work (well.inside a activity is))
        k.most most 1 base (omega arith) (omega arith))

    pub fate_same : (e : Ends) (a : ℕ) → fate_given ts (resized most k) runs g i e a ≡ fate_given ts k runs g i e a
    fate_same e a =
        ap (λ os. if k.begun [] then fate_at k (out-Graph g).controls e a (slice_get (out-Graph g).activities a) os else Waiting)
        (attempts_same e a (slice_get (out-Graph g).activities a) refl)

    pub step_same : step ts (resized most k) runs g i ≡ step ts k runs g i
    step_same = fun_ext (λ e. fun_ext (λ a.
        ap (λ os. ended (if k.begun [] then fate_at k (out-Graph g).controls e a (slice_get (out-Graph g).activities a) os else Waiting) os)
        (attempts_same e a (slice_get (out-Graph g).activities a) refl)))

-- ---- to any depth

pub record IsSameStep (ts : List Template) (k k' : Known) (runs : Runs) (g : Graph) (i : Container) : Type 0 where
  pub steps : step ts k' runs g i ≡ step ts k runs g i
  pub fates : (e : Ends) (a : ℕ) → fate_given ts k' runs g i e a ≡ fate_given ts k runs g i e a

output_same : (ts : List Template) (depth : ℕ) (k k' : Known) (g : Graph) (i : Container) → IsSameStep ts k k' (output ts depth) g i
    → output ts (suc depth) k' g i ≡ output ts (suc depth) k g i
output_same ts depth k k' g i same = ap (λ next. output_by g i (rounds next (length (out-Graph g).activities))) same.steps

same_step : (ts : List Template) (depth : ℕ) (k : Known) (most : ℕ) (items : List (List Part)) (g : Graph) (i : Container) → Well ts depth g → Covers k items
    → length items ≤ k.most → length items ≤ most → IsSameStep ts k (resized most k) (output ts depth) g i
same_step ts zero k most items g i well covers enough enough' = record {
  steps = step_same ts k most (output ts zero) (λ h. Unit {0}) items covers enough enough' (λ q h c ok. refl) (λ q h c o ok gave. absurd (nothing o gave)) g well i;
  fates = fate_same ts k most (output ts zero) (λ h. Unit {0}) items covers enough enough' (λ q h c ok. refl) (λ q h c o ok gave. absurd (nothing o gave)) g well i;
}
  where
    nothing : (o : Container) → None ≡ Some o → ⊥
    nothing o h = cc
same_step ts (suc depth) k most items g i well covers enough enough' =
    go
    (λ q h c ok. output_same ts depth (at q k) (resized most (at q k)) h c (same_step ts depth (at q k) most (strip q items) h c ok (covers_at k items q covers) (fewer q k.most enough) (fewer q most enough')))
    (λ q h c o ok gave. has_items (at q k) (strip q items) (covers_at k items q covers) (output_given ts depth (at q k) h c o ok gave))
  where
    fewer : (q : Part) (n : ℕ) → length items ≤ n → length (strip q items) ≤ n
    fewer q n le = let less = strip_at_most q items in omega arith

    go : ((q : Part) (h : Graph) (c : Container) → Well ts depth h → output ts (suc depth) (at q (resized most k)) h c ≡ output ts (suc depth) (at q k) h c)
        → ((q : Part) (h : Graph) (c o : Container) → Well ts depth h → output ts (suc depth) (at q k) h c ≡ Some o → 0 < length (strip q items))
        → IsSameStep ts k (resized most k) (output ts (suc depth)) g i
    go same own = record {
      steps = step_same ts k most (output ts (suc depth)) (Well ts depth) items covers enough enough' same own g well i;
      fates = fate_same ts k most (output ts (suc depth)) (Well ts depth) items covers enough enough' same own g well i;
    }

pub bound_is_free : (ts : List Template) (depth most most' : ℕ) (fs : List Fact) (g : Graph) (i : Container) → Well ts depth g
    → length fs ≤ most → length fs ≤ most' → IsSameScope ts depth (by_facts most fs) (by_facts most' fs) g i
bound_is_free ts depth most most' fs g i well enough enough' =
    let items : length (items_of fs) ≡ length fs = length-map fs (λ f. f.item.parts) in
    let same = same_step ts depth (by_facts most fs) most' (items_of fs) g i well (λ p o given. facts_cover fs p o given) (omega arith) (omega arith) in
    let ends : tree_ends ts depth (by_facts most' fs) g i ≡ tree_ends ts depth (by_facts most fs) g i = ap (λ next. rounds next (length (out-Graph g).activities)) same.steps in
    record {
      ends = λ a. ap (λ e. e a) ends;
      fates = λ a. same.fates (tree_ends ts depth (by_facts most' fs) g i) a ∙ ap (λ e. fate_given ts (by_facts most fs) (output ts depth) g i e a) ends;
      output = output_same ts depth (by_facts most fs) (by_facts most' fs) g i same;
    }
