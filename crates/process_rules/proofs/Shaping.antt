-- The shapes of graphs and processes, one after another.
use Rattle.std.proofs.Common.{◌≡◌, ℕ, ◌+◌, ◌-◌, ◌^◌, ◌<◌, ◌≤◌, min, max, List, [], ◌∷◌, ◌++◌, length, get_or, take, map, fold, Option, Some, None, refl, sym, ap, ◌∙◌, ⊎_elim, arith, add-one}
use Rattle.std.specs.Prelude.{slice_get, unwrap_or}
use Rattle.std.specs.List.{cons_option}
use Rattle.std.specs.Option.{option_map}
use Rattle.std.proofs.lemmas.Bool.{cases_lt}
use Rattle.std.proofs.lemmas.List.{map-append, take_more}
use Rattle.std.proofs.lemmas.List.Sums.{fold_push, sum_by_push}
use Rattle.std.proofs.lemmas.Option.{slice_get-map}
use Rattle.flow_model.specs.declared.graphs.Library.{Library}
use Rattle.flow_model.specs.declared.trees.ProcessTree.{ProcessTree}
use Rattle.text_graphs.specs.Places.{IsLeastOf}
use Rattle.process_rules.specs.Callees.{Calls}
use Rattle.process_rules.specs.Shapes.{nothing, nested, graph_of, graph_shape, shape_at, named_shape, shapes_to, told_shape, NestsDeep, HasLargeSize}
use Rattle.process_rules.specs.declared.sizes.Shape.{Shape}

same_shape : (a b : Shape) → a.depth ≡ b.depth → a.size ≡ b.size → a ≡ b
same_shape a b d s = λ j. record { depth = d j; size = s j }

-- what is nested, as far as it is told
pub nested_told : (a exact b : Shape) → a ≡ told_shape exact → b ≡ record { depth = min (a.depth + 1) (2 ^ 32 - 1); size = a.size } → b ≡ told_shape (nested exact)
nested_told a exact b is now =
    now ∙ ap (λ (s : Shape). record { depth = min (s.depth + 1) (2 ^ 32 - 1); size = s.size }) is
    ∙ same_shape (record { depth = min (min exact.depth (2 ^ 32 - 1) + 1) (2 ^ 32 - 1); size = min exact.size (2 ^ 64 - 1) }) (told_shape (nested exact)) (omega arith) refl

-- one more element of a graph
graph_push : (added : List Shape) (more : Shape) → graph_of (added ++ more ∷ []) ≡ record { depth = max (graph_of added).depth more.depth; size = (graph_of added).size + more.size }
graph_push added more =
    same_shape (graph_of (added ++ more ∷ [])) (record { depth = max (graph_of added).depth more.depth; size = (graph_of added).size + more.size })
    (ap (fold max 0) (map-append (λ (s : Shape). s.depth) added (more ∷ [])) ∙ fold_push max 0 (map (λ (s : Shape). s.depth) added) more.depth)
    (let e = sum_by_push (λ (s : Shape). s.size) added more in omega arith)

told_both : (a b : Shape) → record { depth = max (told_shape a).depth (told_shape b).depth; size = min ((told_shape a).size + (told_shape b).size) (2 ^ 64 - 1) } ≡ told_shape (record { depth = max a.depth b.depth; size = a.size + b.size })
told_both a b =
    same_shape (record { depth = max (told_shape a).depth (told_shape b).depth; size = min ((told_shape a).size + (told_shape b).size) (2 ^ 64 - 1) }) (told_shape (record { depth = max a.depth b.depth; size = a.size + b.size })) (omega arith) (omega arith)

pub graph_more : {X : Type 0} (adds : X → Shape) (xs : List X) (i : ℕ) (x : X) (shape added next : Shape) → i < length xs → x ≡ get_or xs i x → next ≡ record { depth = max shape.depth added.depth; size = min (shape.size + added.size) (2 ^ 64 - 1) }
    → shape ≡ told_shape (graph_of (map adds (take i xs))) → added ≡ told_shape (adds x) → next ≡ told_shape (graph_of (map adds (take (i + 1) xs)))
graph_more {X} adds xs i x shape added next less is now so_far here =
    now
    ∙ ap (λ (s : Shape). record { depth = max s.depth added.depth; size = min (s.size + added.size) (2 ^ 64 - 1) }) so_far
    ∙ ap (λ (s : Shape). record { depth = max (told_shape before).depth s.depth; size = min ((told_shape before).size + s.size) (2 ^ 64 - 1) }) here
    ∙ told_both before (adds x)
    ∙ ap told_shape (sym (graph_push (map adds (take i xs)) (adds x)) ∙ ap graph_of (sym (map-append adds (take i xs) (x ∷ []))) ∙ ap (λ (ys : List X). graph_of (map adds ys)) taken)
  where
    before : Shape
    before = graph_of (map adds (take i xs))

    taken : take i xs ++ x ∷ [] ≡ take (i + 1) xs
    taken = ap (λ (y : X). take i xs ++ y ∷ []) is ∙ sym (take_more xs i x less)

-- a shape of a list, as far as it is told
pub nth_told : (shapes exact : List Shape) (n : ℕ) (shape : Shape) → shapes ≡ map told_shape exact → shape ≡ shape_at shapes n → shape ≡ told_shape (shape_at exact n)
nth_told shapes exact n shape same is =
    is ∙ ap (λ (ss : List Shape). shape_at ss n) same ∙ ap (λ (o : Option Shape). unwrap_or o nothing) (slice_get-map told_shape exact n) ∙ go (slice_get exact n)
  where
    go : (o : Option Shape) → unwrap_or (option_map told_shape o) nothing ≡ told_shape (unwrap_or o nothing)
    go None = refl
    go (Some s) = refl

-- one more process
pub shapes_next : (calls : Calls) (library : Library) (processes : List ProcessTree) (n : ℕ) (p : ProcessTree) (shapes next : List Shape) (shape : Shape) → slice_get processes n ≡ Some p → next ≡ shapes ++ shape ∷ []
    → shapes ≡ map told_shape (shapes_to calls library processes n) → shape ≡ told_shape (graph_shape (named_shape calls library (shapes_to calls library processes n) n) p.elements) → next ≡ map told_shape (shapes_to calls library processes (n + 1))
shapes_next calls library processes n p shapes next shape at now so_far here =
    now ∙ ap (λ (ss : List Shape). ss ++ shape ∷ []) so_far ∙ ap (λ (s : Shape). map told_shape before ++ s ∷ []) here
    ∙ sym (map-append told_shape before (graph_shape (named_shape calls library before n) p.elements ∷ []))
    ∙ ap (λ (o : Option ProcessTree). map told_shape (before ++ cons_option (option_map (λ q. graph_shape (named_shape calls library before n) q.elements) o) [])) (sym at)
    ∙ ap (λ (m : ℕ). map told_shape (shapes_to calls library processes m)) (sym (add-one n))
  where
    before : List Shape
    before = shapes_to calls library processes n

-- where rules 21 and 22 find nothing, a process is as deep and as large as they allow
pub limits_where_none : (shapes : List Shape) (processes : List ProcessTree) (n : ℕ) (p : ProcessTree) → slice_get processes n ≡ Some p → IsLeastOf (NestsDeep shapes processes) None → IsLeastOf (HasLargeSize shapes processes) None
    → ((shape_at shapes n).depth ≤ 16) × ((shape_at shapes n).size ≤ 65536)
limits_where_none shapes processes n p at shallow few = (
  ⊎_elim (λ (deep : 16 < (shape_at shapes n).depth). absurd (shallow p.place (n, p, at, (deep, refl)))) (λ le. le) (cases_lt 16 (shape_at shapes n).depth),
  ⊎_elim (λ (large : 65536 < (shape_at shapes n).size). absurd (few p.place (n, p, at, (large, refl)))) (λ le. le) (cases_lt 65536 (shape_at shapes n).size),
)

-- and its shape is told as it is
pub told_where_none : (shapes : List Shape) (processes : List ProcessTree) (n : ℕ) (p : ProcessTree) → slice_get processes n ≡ Some p → IsLeastOf (NestsDeep shapes processes) None → IsLeastOf (HasLargeSize shapes processes) None
    → told_shape (shape_at shapes n) ≡ shape_at shapes n
told_where_none shapes processes n p at shallow few =
    let limits = limits_where_none shapes processes n p at shallow few in
    same_shape (told_shape (shape_at shapes n)) (shape_at shapes n) (let d = limits.0 in omega arith) (let s = limits.1 in omega arith)
