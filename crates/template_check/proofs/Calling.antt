-- Where each activity runs processes at earlier places alone, so does its graph; and templates that stand behind others.
use Rattle.std.proofs.Common.{◌≡◌, ℕ, zero, suc, ◌+◌, List, [], ◌∷◌, ◌++◌, length, Option, Some, None, refl, sym, subst, ◌∙◌, arith}
use Rattle.std.specs.List.{All}
use Rattle.std.specs.Prelude.{slice_get}
use Rattle.std.proofs.lemmas.List.Elements.{All-append}
use Rattle.std.proofs.lemmas.Option.{none-some}
use Rattle.fate_laws.specs.Layout.{OfInside}
use Rattle.flow_model.specs.ScopeContainers.{graph_in}
use Rattle.flow_model.specs.declared.graphs.Activity.{Activity}
use Rattle.flow_model.specs.declared.graphs.Control.{Control}
use Rattle.flow_model.specs.declared.graphs.DataLine.{DataLine}
use Rattle.flow_model.specs.declared.graphs.Graph.{Graph, out-Graph, roll-Graph, out-roll-Graph}
use Rattle.flow_model.specs.declared.graphs.Leaves.{Leaves}
use Rattle.flow_model.specs.declared.graphs.LoopLine.{LoopLine}
use Rattle.flow_model.specs.declared.graphs.Template.{Template}
use Rattle.flow_model.specs.declared.graphs.Wiring.{Wiring}
use Rattle.template_check.specs.Built.{AreSoundBehind, IsSoundAlone, ComeBeforeAlone}
use Rattle.process_rules.specs.Calling.{CallsTo, IsCalling, IsCallingWork, AreOrdered}

module _ (limit : ℕ) where
  widened : (P Q : Graph → Type 0) (o : Option Activity) → ((h : Graph) → P h → Q h) → OfInside [] P o → OfInside [] Q o
  widened P Q None gives inside = tt
  widened P Q (Some activity) gives inside = λ h is. gives h (inside h is)

  -- blocks nest no deeper than more than they do
  calls_more : (depth : ℕ) (g : Graph) → CallsTo limit depth g → CallsTo limit (suc depth) g
  calls_more zero g calls = record {
    here = calls.here;
    inside = λ a. widened (λ h. ⊥) (CallsTo limit zero) (slice_get (out-Graph g).activities a) (λ h never. absurd never) (calls.inside a);
  }
  calls_more (suc depth) g calls = record {
    here = calls.here;
    inside = λ a. widened (CallsTo limit depth) (CallsTo limit (suc depth)) (slice_get (out-Graph g).activities a) (calls_more depth) (calls.inside a);
  }

  calls_deeper : (more depth : ℕ) (g : Graph) → CallsTo limit depth g → CallsTo limit (more + depth) g
  calls_deeper zero depth g calls = let same : depth ≡ 0 + depth = omega arith in subst (λ (d : ℕ). CallsTo limit d g) same calls
  calls_deeper (suc more) depth g calls =
      let same : suc (more + depth) ≡ suc more + depth = omega arith in
      subst (λ (d : ℕ). CallsTo limit d g) same (calls_more (more + depth) g (calls_deeper more depth g calls))

  -- the blocks of these activities nest to some depth
  deepest : (xs : List Activity) → All (λ x. IsCallingWork limit x.work) xs → (depth : ℕ) × ((a : ℕ) → OfInside [] (CallsTo limit depth) (slice_get xs a))
  deepest [] all = (0, λ a. tt)
  deepest (x ∷ xs) all = by (graph_in [] x.work) refl (all 0 x (omega arith)).inside (deepest xs (λ k d less. all (suc k) d (omega arith)))
    where
      by : (o : Option Graph) → graph_in [] x.work ≡ o → ((g : Graph) → graph_in [] x.work ≡ Some g → IsCalling limit g)
          → (depth : ℕ) × ((a : ℕ) → OfInside [] (CallsTo limit depth) (slice_get xs a)) → (depth : ℕ) × ((a : ℕ) → OfInside [] (CallsTo limit depth) (slice_get (x ∷ xs) a))
      by None none inside rest = (rest.0, here)
        where
          here : (a : ℕ) → OfInside [] (CallsTo limit rest.0) (slice_get (x ∷ xs) a)
          here zero = λ h is. absurd (none-some h (sym none ∙ is))
          here (suc a) = rest.1 a
      by (Some g) found inside rest = (inner.0 + rest.0, here)
        where
          inner : IsCalling limit g
          inner = inside g found

          here : (a : ℕ) → OfInside [] (CallsTo limit (inner.0 + rest.0)) (slice_get (x ∷ xs) a)
          here zero = λ h is.
              let both : Some g ≡ Some h = sym found ∙ is in
              let graph : g ≡ h = cc in
              let same : rest.0 + inner.0 ≡ inner.0 + rest.0 = omega arith in
              subst (CallsTo limit (inner.0 + rest.0)) graph (subst (λ (d : ℕ). CallsTo limit d g) same (calls_deeper rest.0 inner.0 g inner.1))
          here (suc a) = widened (CallsTo limit rest.0) (CallsTo limit (inner.0 + rest.0)) (slice_get xs a) (calls_deeper inner.0 rest.0) (rest.1 a)

  -- a graph runs processes before a place alone where all that its activities do does so
  calling : (g : Graph) → All (λ a. IsCallingWork limit a.work) (out-Graph g).activities → IsCalling limit g
  calling g all =
      let deep = deepest (out-Graph g).activities all in
      (suc deep.0, record { here = λ k d less. (all k d less).below; inside = deep.1 })

  -- the graph that is built of its parts
  pub built_calling : (input output : Leaves) (activities : List Activity) (controls : List Control) (lines : List DataLine) (loops : List LoopLine) (wiring : Wiring) → All (λ a. IsCallingWork limit a.work) activities
      → IsCalling limit (roll-Graph (record { input = input; output = output; activities = activities; controls = controls; lines = lines; loops = loops; wiring = wiring }))
  built_calling input output activities controls lines loops wiring all =
      let parts = out-roll-Graph (record { input = input; output = output; activities = activities; controls = controls; lines = lines; loops = loops; wiring = wiring }) in
      calling _ (rw parts all)

-- the same place, said otherwise
moved : (a b : ℕ) (g : Graph) → a ≡ b → IsCalling a g → IsCalling b g
moved a b g same calls = subst (λ n. IsCalling n g) same calls

ordered_append : (before : ℕ) (xs ys : List Template) → AreOrdered before xs → AreOrdered (before + length xs) ys → AreOrdered before (xs ++ ys)
ordered_append before [] ys first second = λ k t is. moved (before + 0 + k) (before + k) t.graph (omega arith) (second k t is)
ordered_append before (x ∷ xs) ys first second =
    go (
    ordered_append (before + 1) xs ys (λ k t is. moved (before + suc k) (before + 1 + k) t.graph (omega arith) (first (suc k) t is))
    (λ k t is. moved (before + suc (length xs) + k) (before + 1 + length xs + k) t.graph (omega arith) (second k t is))
    )
  where
    go : AreOrdered (before + 1) (xs ++ ys) → AreOrdered before ((x ∷ xs) ++ ys)
    go rest zero t is = first zero t is
    go rest (suc k) t is = moved (before + 1 + k) (before + suc k) t.graph (omega arith) (rest k t is)

-- no templates are sound
pub sound_none : (before : ℕ) → AreSoundBehind before []
sound_none before = record { alone = λ k d less. absurd (omega (arith, less)); ordered = λ k t is. cc; performed = λ k d less. absurd (omega (arith, less)) }

-- templates are sound behind those before which they stand
pub sound_append : (before : ℕ) (xs ys : List Template) → AreSoundBehind before xs → AreSoundBehind (before + length xs) ys → AreSoundBehind before (xs ++ ys)
sound_append before xs ys first second = record {
  alone = All-append (λ (t : Template). IsSoundAlone t.graph) xs ys first.alone second.alone;
  ordered = ordered_append before xs ys first.ordered second.ordered;
  performed = All-append (λ (t : Template). ComeBeforeAlone t.graph) xs ys first.performed second.performed;
}

-- one more by itself
pub alone_push : (ts : List Template) (t : Template) → All (λ u. IsSoundAlone u.graph) ts → IsSoundAlone t.graph → All (λ u. IsSoundAlone u.graph) (ts ++ t ∷ [])
alone_push ts t first alone = All-append (λ (u : Template). IsSoundAlone u.graph) ts (t ∷ []) first one
  where
    one : All (λ (u : Template). IsSoundAlone u.graph) (t ∷ [])
    one zero d less = alone
    one (suc k) d less = absurd (omega (arith, less))

-- one more behind the processes that it runs
pub ordered_push : (before : ℕ) (ts : List Template) (t : Template) → AreOrdered before ts → IsCalling (before + length ts) t.graph → AreOrdered before (ts ++ t ∷ [])
ordered_push before ts t first calls = ordered_append before ts (t ∷ []) first here
  where
    here : AreOrdered (before + length ts) (t ∷ [])
    here zero u is = let same : t ≡ u = cc in subst (λ (v : Template). IsCalling (before + length ts + 0) v.graph) same (moved (before + length ts) (before + length ts + 0) t.graph (omega arith) calls)
    here (suc k) u is = cc

-- what a library gets is sound behind it
pub sound_added : (xs ys : List Template) → AreSoundBehind 0 xs → AreSoundBehind (length xs) ys → AreSoundBehind 0 (xs ++ ys)
sound_added xs ys first second =
    let same : length xs ≡ 0 + length xs = omega arith in
    sound_append 0 xs ys first (subst (λ n. AreSoundBehind n ys) same second)
