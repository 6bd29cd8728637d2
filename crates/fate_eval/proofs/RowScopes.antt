-- The rows of a scope stand in it, or in scopes below it.
use Rattle.std.proofs.Common.{◌≡◌, ℕ, zero, suc, List, [], ◌∷◌, ◌++◌, length, Option, Some, None, refl, ap, sym, ◌∙◌, ◌⊎◌, ◌<◌, inl, inr, arith, append-nil, append_assoc}
use Rattle.std.specs.Prelude.{slice_get, slice_index_or}
use Rattle.std.specs.List.{Contains, flat_map}
use Rattle.std.proofs.lemmas.List.{append_cancel_left}
use Rattle.std.proofs.lemmas.List.Elements.{Contains-append_right, Contains-append_cases}
use Rattle.flow_model.specs.Rows.{rows, rows_of, rows_below, below}
use Rattle.flow_model.specs.ScopeContainers.{graph_in, up_to}
use Rattle.flow_model.specs.Scopes.{Known, Start, at, part, output, tree_ends, tree_fate, started_at}
use Rattle.flow_model.specs.declared.graphs.Activity.{Activity}
use Rattle.flow_model.specs.declared.graphs.Container.{Container}
use Rattle.flow_model.specs.declared.graphs.Graph.{Graph, out-Graph}
use Rattle.flow_model.specs.declared.graphs.Template.{Template}
use Rattle.flow_model.specs.declared.instances.FateRow.{FateRow}
use Rattle.flow_model.specs.declared.instances.Part.{Part}
use Rattle.flow_model.specs.declared.instances.Path.{Path}
use Rattle.fate_eval.specs.Passing.{rows_inside}

pub none_contained : {X : Type 0} (x : X) → Contains [] x → ⊥
none_contained x there = let less = there.1 in omega (arith, less)

-- what stands in a joined list stands in one of its parts
pub from_flat : {X Y : Type 0} (f : X → List Y) (xs : List X) (y : Y) → Contains (flat_map f xs) y → (x : X) × (Contains xs x × Contains (f x) y)
from_flat {X} {Y} f [] y there = absurd (none_contained y there)
from_flat {X} {Y} f (x ∷ xs) y there = go (Contains-append_cases (f x) (flat_map f xs) y there) (from_flat f xs y)
  where
    go : Contains (f x) y ⊎ Contains (flat_map f xs) y → (Contains (flat_map f xs) y → (z : X) × (Contains xs z × Contains (f z) y)) → (z : X) × (Contains (x ∷ xs) z × Contains (f z) y)
    go (inl here) rest = (x, ((0, omega arith, refl), here))
    go (inr later) rest = let r = rest later in (r.0, (Contains-append_right (x ∷ []) xs r.0 r.1.0, r.1.1))

-- the scope is this one, or one below it
abbrev pub IsUnder : Path → Path → Type 0
IsUnder s scope = (path : List Part) × (scope ≡ record { root = s.root; parts = s.parts ++ path })

module _ (ts : List Template) (inner : Known → Graph → Container → Path → List FateRow) (k : Known) (s : Path) (r : FateRow)
    (deeper : (q : Part) (h : Graph) (i : Container) → Contains (inner (at q k) h i (below s q)) r → IsUnder (below s q) r.scope) where
  pub under_part : (activity : Activity) (o : Option Graph) (xs : List Start) → Contains (rows_below inner k activity o xs s) r
      → (j : ℕ) × (path : List Part) × (r.scope ≡ record { root = s.root; parts = s.parts ++ part activity.name j ∷ path })
  under_part activity None xs there = absurd (none_contained r there)
  under_part activity (Some h) xs there =
      let one = from_flat (λ start. inner (at (part activity.name start.attempt) k) h start.input (below s (part activity.name start.attempt))) xs r there in
      let q = part activity.name one.0.attempt in
      let is = deeper q h one.0.input one.1.1 in
      (one.0.attempt, is.0, is.1 ∙ ap (λ (ps : List Part). record { root = s.root; parts = ps }) (append_assoc s.parts (q ∷ []) is.0))

  own_or_under : (depth : ℕ) (g : Graph) (i : Container) (a : ℕ) (o : Option Activity) → Contains (rows_of ts depth inner k g i s a o) r → IsUnder s r.scope
  own_or_under depth g i a None there = absurd (none_contained r there)
  own_or_under depth g i a (Some activity) there = go there.0 there.1 there.2
    where
      xs : List FateRow
      xs = rows_below inner k activity (graph_in ts activity.work) (started_at ts k (output ts depth) g i (tree_ends ts depth k g i) a activity) s

      own : FateRow
      own = record { scope = s; name = activity.name; fate = tree_fate ts depth k g i a }

      go : (n : ℕ) → n < length (own ∷ xs) → slice_index_or (own ∷ xs) n r ≡ r → IsUnder s r.scope
      go zero less is = ([], sym (ap (λ (x : FateRow). x.scope) is) ∙ ap (λ (ps : List Part). record { root = s.root; parts = ps }) (sym (append-nil s.parts)))
      go (suc n) less is = let u = under_part activity (graph_in ts activity.work) (started_at ts k (output ts depth) g i (tree_ends ts depth k g i) a activity) (n, omega arith, is) in (part activity.name u.0 ∷ u.1, u.2)

-- to any depth
pub rows_under : (ts : List Template) (depth : ℕ) (k : Known) (g : Graph) (i : Container) (s : Path) (r : FateRow) → Contains (rows ts depth k g i s) r → IsUnder s r.scope
rows_under ts zero k g i s r there =
    let one = from_flat (λ a. rows_of ts zero (λ k' h i p. []) k g i s a (slice_get (out-Graph g).activities a)) (up_to (length (out-Graph g).activities) 0) r there in
    own_or_under ts (λ k' h i p. []) k s r (λ q h j none. absurd (none_contained r none)) zero g i one.0 (slice_get (out-Graph g).activities one.0) one.1.1
rows_under ts (suc depth) k g i s r there =
    let one = from_flat (λ a. rows_of ts (suc depth) (rows ts depth) k g i s a (slice_get (out-Graph g).activities a)) (up_to (length (out-Graph g).activities) 0) r there in
    own_or_under ts (rows ts depth) k s r (λ q h j here. rows_under ts depth (at q k) h j (below s q) r here) (suc depth) g i one.0 (slice_get (out-Graph g).activities one.0) one.1.1

pub inside_under : (ts : List Template) (depth : ℕ) (k : Known) (g : Graph) (i : Container) (s : Path) (r : FateRow) → Contains (rows_inside ts depth k g i s) r → IsUnder s r.scope
inside_under ts zero k g i s r there = absurd (none_contained r there)
inside_under ts (suc depth) k g i s r there = rows_under ts depth k g i s r there

-- an item whose row stands below a part begins with it
pub rest_begins : (s scope : Path) (last q : Part) (rest path : List Part) → scope ≡ record { root = s.root; parts = s.parts ++ q ∷ path }
    → below scope last ≡ record { root = s.root; parts = s.parts ++ rest } → rest ≡ q ∷ (path ++ last ∷ [])
rest_begins s scope last q rest path under item =
    let all : (s.parts ++ q ∷ path) ++ last ∷ [] ≡ s.parts ++ rest = ap (λ (p : Path). p.parts ++ last ∷ []) (sym under) ∙ ap (λ (p : Path). p.parts) item in
    sym (append_cancel_left s.parts (q ∷ (path ++ last ∷ [])) rest (sym (append_assoc s.parts (q ∷ path) (last ∷ [])) ∙ all))
