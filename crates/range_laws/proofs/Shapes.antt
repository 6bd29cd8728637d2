-- How deep the graphs of a text nest, by the shapes of its processes: each activity nests less deep than its graph.
use Rattle.std.proofs.Common.{◌≡◌, ◌⊎◌, inl, inr, ℕ, zero, suc, ◌<◌, ◌≤◌, max, fold, List, [], ◌∷◌, ◌++◌, length, map, Some}
use Rattle.std.proofs.Common.{refl, sym, ap, subst, ◌∙◌, arith}
use Rattle.std.specs.List.{cons_option}
use Rattle.std.specs.Option.{option_map}
use Rattle.std.specs.Prelude.{slice_get, unwrap_or}
use Rattle.std.proofs.lemmas.Bool.{cases_lt}
use Rattle.std.proofs.lemmas.Option.{none-some}
use Rattle.flow_model.specs.declared.graphs.Library.{Library}
use Rattle.flow_model.specs.declared.trees.ActivityTree.{ActivityTree}
use Rattle.flow_model.specs.declared.trees.ElementTree.{ElementTree, Activity, Activity', Control, Line}
use Rattle.flow_model.specs.declared.trees.ElementTree.TheOpen.{ElementTree-F, WorkTree-F}
use Rattle.flow_model.specs.declared.trees.ElementTree.TheFolds.{fold-roll-ElementTree, fold-roll-WorkTree, fold_out-ActivityTree}
use Rattle.flow_model.specs.declared.trees.ElementTree.TheVariants.{rolls-Activity}
use Rattle.flow_model.specs.declared.trees.NameAt.{NameAt}
use Rattle.flow_model.specs.declared.trees.ProcessTree.{ProcessTree}
use Rattle.flow_model.specs.declared.trees.WorkTree.{WorkTree, Block, Process}
use Rattle.flow_model.specs.declared.trees.WorkTree.TheVariants.{rolls-Block, rolls-Process}
use Rattle.machine_scopes.proofs.Lists.{push_long}
use Rattle.process_rules.specs.Callees.{Calls}
use Rattle.process_rules.specs.Shapes.{nothing, nested, work_by, activity_by, element_by, element_adds, work_adds, graph_shape}
use Rattle.process_rules.specs.Shapes.{shape_at, named_shape, shapes_to}
use Rattle.process_rules.specs.declared.sizes.Shape.{Shape}
use Rattle.text_graphs.specs.Texts.{activities_in}
use Rattle.range_laws.proofs.Scenes.{some_is}

-- ---- one graph

module _ (runs : List ℕ → Shape) where
  activity_adds : (a : ActivityTree) → element_adds runs (Activity a) ≡ work_adds runs a.work
  activity_adds a =
      ap (λ (e : ElementTree). element_adds runs e) (sym (rolls-Activity a))
      ∙ fold-roll-ElementTree Shape Shape Shape element_by (work_by runs) activity_by (ElementTree-F.Activity a)
      ∙ fold_out-ActivityTree Shape Shape Shape element_by (work_by runs) activity_by a

  pub block_adds : (es : List ElementTree) → work_adds runs (Block es) ≡ nested (graph_shape runs es)
  block_adds es =
      ap (λ (w : WorkTree). work_adds runs w) (sym (rolls-Block es))
      ∙ fold-roll-WorkTree Shape Shape Shape element_by (work_by runs) activity_by (WorkTree-F.Block es)

  pub process_adds : (name : NameAt) → work_adds runs (Process name) ≡ nested (runs name.name)
  process_adds name =
      ap (λ (w : WorkTree). work_adds runs w) (sym (rolls-Process name))
      ∙ fold-roll-WorkTree Shape Shape Shape element_by (work_by runs) activity_by (WorkTree-F.Process name)

  -- the greatest is no less than the first, nor than the greatest of the others
  fold_from : (ns : List ℕ) (n : ℕ) → fold max n ns ≡ max n (fold max 0 ns)
  fold_from [] n = omega arith
  fold_from (m ∷ ns) n = let a = fold_from ns (max n m) in let b = fold_from ns (max 0 m) in omega arith

  depth_cons : (e : ElementTree) (es : List ElementTree)
      → (graph_shape runs (e ∷ es)).depth ≡ max (element_adds runs e).depth (graph_shape runs es).depth
  depth_cons e es =
      let a = fold_from (map (λ s. s.depth) (map (element_adds runs) es)) (max 0 (element_adds runs e).depth) in
      omega arith

  -- an activity nests no deeper than its graph
  pub no_deeper : (es : List ElementTree) (k : ℕ) (a : ActivityTree) → slice_get (activities_in es) k ≡ Some a
      → (work_adds runs a.work).depth ≤ (graph_shape runs es).depth
  no_deeper [] k a at = absurd (none-some a at)
  no_deeper (Control c ∷ es) k a at =
      let rest = no_deeper es k a at in
      let e = depth_cons (Control c) es in
      omega (arith, rest, e)
  no_deeper (Line l ∷ es) k a at =
      let rest = no_deeper es k a at in
      let e = depth_cons (Line l) es in
      omega (arith, rest, e)
  no_deeper (Activity' place work name input output attrs end ∷ es) zero a at =
      let x : ActivityTree = record {
        place = place;
        work = work;
        name = name;
        input = input;
        output = output;
        attrs = attrs;
        end = end;
      } in
      let same : x ≡ a = some_is x a at in
      let e = depth_cons (Activity x) es in
      let one : (element_adds runs (Activity x)).depth ≡ (work_adds runs a.work).depth =
      ap (λ (s : Shape). s.depth) (activity_adds x ∙ ap (λ (y : ActivityTree). work_adds runs y.work) same) in
      omega (arith, e, one)
  no_deeper (Activity' place work name input output attrs end ∷ es) (suc k) a at =
      let x : ActivityTree = record {
        place = place;
        work = work;
        name = name;
        input = input;
        output = output;
        attrs = attrs;
        end = end;
      } in
      let rest = no_deeper es k a at in
      let e = depth_cons (Activity x) es in
      omega (arith, rest, e)

-- ---- the processes of a text

front_get : {X : Type 0} (xs ys : List X) (k : ℕ) → k < length xs → slice_get (xs ++ ys) k ≡ slice_get xs k
front_get [] ys k less = absurd (omega (arith, less))
front_get (x ∷ xs) ys zero less = refl
front_get (x ∷ xs) ys (suc k) less = front_get xs ys k (omega (arith, less))

last_get : {X : Type 0} (xs : List X) (x : X) (k : ℕ) → k ≡ length xs → slice_get (xs ++ x ∷ []) k ≡ Some x
last_get [] x zero is = refl
last_get [] x (suc k) is = absurd (omega (arith, is))
last_get (y ∷ xs) x zero is = absurd (omega (arith, is))
last_get (y ∷ xs) x (suc k) is = last_get xs x k (omega (arith, is))

pub there : {X : Type 0} (xs : List X) (k : ℕ) → k < length xs → (x : X) × (slice_get xs k ≡ Some x)
there [] k less = absurd (omega (arith, less))
there (x ∷ xs) zero less = (x, refl)
there (x ∷ xs) (suc k) less = there xs k (omega (arith, less))

module _ (calls : Calls) (library : Library) (ps : List ProcessTree) where
  -- the shape of a process by those before it
  abbrev pub shape_of : ℕ → ProcessTree → Shape
  shape_of n p = graph_shape (named_shape calls library (shapes_to calls library ps n) n) p.elements

  next_shapes : (n : ℕ) (p : ProcessTree) → slice_get ps n ≡ Some p
      → shapes_to calls library ps (suc n) ≡ shapes_to calls library ps n ++ shape_of n p ∷ []
  next_shapes n p at =
      ap (λ o. shapes_to calls library ps n ++ cons_option (option_map (λ (q : ProcessTree). shape_of n q) o) []) at

  shapes_long : (n : ℕ) → n ≤ length ps → length (shapes_to calls library ps n) ≡ n
  shapes_long zero le = refl
  shapes_long (suc n) le =
      let p = there ps n (omega (arith, le)) in
      let more = shapes_long n (omega (arith, le)) in
      let long = push_long (shapes_to calls library ps n) (shape_of n p.0) in
      ap length (next_shapes n p.0 p.1) ∙ (let e : length (shapes_to calls library ps n ++ shape_of n p.0 ∷ []) ≡ suc n = omega (arith, long, more) in e)

  -- the shape of a process, in any row of shapes that goes behind it
  pub shape_is : (n k : ℕ) (p : ProcessTree) → n ≤ length ps → k < n → slice_get ps k ≡ Some p
      → shape_at (shapes_to calls library ps n) k ≡ shape_of k p
  shape_is zero k p le less at = absurd (omega (arith, less))
  shape_is (suc n) k p le less at =
      by (there ps n (omega (arith, le))) (shapes_long n (omega (arith, le)))
      (λ lower. shape_is n k p (omega (arith, le)) lower at) (cases_lt k n)
    where
      by : (q : ProcessTree) × (slice_get ps n ≡ Some q) → length (shapes_to calls library ps n) ≡ n
          → (k < n → shape_at (shapes_to calls library ps n) k ≡ shape_of k p) → (k < n) ⊎ (n ≤ k)
          → shape_at (shapes_to calls library ps (suc n)) k ≡ shape_of k p
      by q long before (inl lower) =
          let inside : k < length (shapes_to calls library ps n) = omega (arith, lower, long) in
          ap (λ ss. shape_at ss k) (next_shapes n q.0 q.1)
          ∙ ap (λ o. unwrap_or o nothing) (front_get (shapes_to calls library ps n) (shape_of n q.0 ∷ []) k inside)
          ∙ before lower
      by q long before (inr high) =
          let same : k ≡ n = omega (arith, high, less) in
          let last : k ≡ length (shapes_to calls library ps n) = omega (arith, same, long) in
          let one : slice_get ps n ≡ Some p = subst (λ (m : ℕ). slice_get ps m ≡ Some p) same at in
          ap (λ ss. shape_at ss k) (next_shapes n p one)
          ∙ ap (λ o. unwrap_or o nothing) (last_get (shapes_to calls library ps n) (shape_of n p) k last)
          ∙ ap (λ (m : ℕ). shape_of m p) (sym same)
